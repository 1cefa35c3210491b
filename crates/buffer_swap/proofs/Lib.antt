pub mod Growing
pub mod Reasons
pub mod NumberedOnce
pub mod Numbers
mod Buffers
mod Sums
pub mod Desks
pub mod Fulls
mod Fitting
mod Keeps
mod Answering
mod Naming
mod Publishing
mod Ending
mod Waiting
mod Known
