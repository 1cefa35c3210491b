mod ChunkRecords
mod Listed
pub mod Refused
pub mod Scanning
mod Steps
mod Taking
pub mod Walked
