mod Appended
mod Asked
pub mod Chosen
mod Digits
mod Fewer
mod Named
pub mod Ordering
pub mod Parts
pub mod Played
mod Printed
pub mod Puttings
mod Quoted
pub mod Stretched
mod Writing
