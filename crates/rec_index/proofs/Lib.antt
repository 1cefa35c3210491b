pub mod Contents
mod MapContents
