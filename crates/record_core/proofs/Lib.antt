pub mod Owning
pub mod Bytes
pub mod Refusals
pub mod Runs
pub mod Calls
pub mod Sizes
mod Lacking
