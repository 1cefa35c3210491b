-- What `Runs` of mcap_app reaches, in the order to read it.
pub mod Reaching
pub mod Costs
pub mod Bounds
pub mod Holding
pub mod Played
pub mod Replaying
-- What the functions of this crate and its proofs say besides.
pub mod ReplayingSteps
pub mod Steps
pub mod Lists
pub mod Chunks
pub mod Gathering
pub mod HoldingSteps
pub mod LoadedReplays
pub mod Belonging
pub mod Laws
pub mod Apart
