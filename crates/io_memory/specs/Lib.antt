pub mod Planned
pub mod Standing
