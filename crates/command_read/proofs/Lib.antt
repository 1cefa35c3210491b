mod Places
mod Counted
mod Added
mod Shown
mod Named
mod Once
pub mod Tellings
pub mod Checks
pub mod Cats
pub mod Followings
mod TwoFiles
mod TwoNames
mod Plays
mod TwoDue
mod ScriptBytes
mod Unplayed
mod Printings
mod PlayDecides
