-- What `Runs` of mcap_app reaches, in the order to read it.
pub mod Text
pub mod Watching
-- What the functions of this crate and its proofs say besides.
pub mod WatcherSteps
pub mod Putting
