pub mod Places
pub mod Searches
pub mod TableIds
pub mod Numbering
pub mod Giving
pub mod Definitions
