pub mod Cuts
pub mod Contents
pub mod Noting
pub mod Planned
pub mod Stopping
pub mod Writing
pub mod Entries
pub mod Through
pub mod Taking
pub mod Uncut
pub mod Plain
pub mod Fronts
pub mod Taped
mod Gathered
