pub mod Keys
mod RowLemmas
pub mod Marks
pub mod Growing
pub mod Blocks
mod Putting
mod Taking
