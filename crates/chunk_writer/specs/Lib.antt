-- What `Runs` of mcap_app reaches, in the order to read it.
pub mod Limits
pub mod Stops
-- What the functions of this crate and its proofs say besides.
pub mod LimitSteps
pub mod Bodies
pub mod Planning
pub mod Plans
pub mod Held
pub mod StopSteps
pub mod Scribes
pub mod Tapes
pub mod Buffered
pub mod Waiting
