-- What `Runs` of mcap_app reaches, in the order to read it.
pub mod Reached
pub mod Parts
pub mod Loading
-- What the functions of this crate and its proofs say besides.
pub mod PartSteps
pub mod Steps
pub mod Laws
