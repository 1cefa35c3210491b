-- What `Runs` of mcap_app reaches, in the order to read it.
pub mod Watched
pub mod Files
-- What the functions of this crate and its proofs say besides.
pub mod Publishing
pub mod WatchedSteps
