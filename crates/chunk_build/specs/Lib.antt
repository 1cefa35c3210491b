pub mod Keys
pub mod Rows
pub mod Opened
pub mod Building
pub mod Chunking
pub mod Held
pub mod Chunker
