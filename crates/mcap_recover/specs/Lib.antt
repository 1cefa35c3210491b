-- What `Runs` of mcap_app reaches, in the order to read it.
pub mod Recovering
-- What the functions of this crate and its proofs say besides.
pub mod Readings
pub mod RecoverySteps
