pub mod Calls
mod Dues
pub mod Extents
pub mod Facts
mod Fitting
mod Giving
mod Going
pub mod Held
mod Listed
pub mod ListedSpans
mod Loading
pub mod Noted
mod OnTurn
pub mod Ordered
mod Placed
mod Places
pub mod Queues
mod Reached
mod Risen
pub mod Stayed
mod Steps
mod Summed
mod Surveyed
pub mod Telling
pub mod Unchanged
mod Walked
mod Zipped
