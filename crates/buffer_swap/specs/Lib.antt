-- What `Runs` of mcap_app reaches, in the order to read it.
pub mod Shown
-- What the functions of this crate and its proofs say besides.
pub mod Weights
pub mod ShownSteps
pub mod Posts
pub mod Turns
pub mod Plays
pub mod Calls
pub mod Laws
