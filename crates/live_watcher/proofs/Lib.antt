mod Digits
mod Bytes
mod Fronts
mod Replays
pub mod Taking
pub mod Texts
pub mod Steps
