mod Register
mod Entries
mod Blocks
mod Folding
mod Below
pub mod Nibbles
mod Lanes
mod Sparse
mod Gathering
pub mod RemainderLemmas
