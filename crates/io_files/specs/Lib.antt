pub mod Ahead
pub mod Files
pub mod Gathered
pub mod Inputs
