pub mod Contents
mod MapContents
pub mod OwnedLengths
pub mod OwnedReading
mod Setting
