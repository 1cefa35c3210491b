-- What `Runs` of mcap_app reaches, in the order to read it.
pub mod Published
pub mod Reading
-- What the functions of this crate and its proofs say besides.
pub mod Histories
pub mod Rules
pub mod Visits
pub mod Writing
pub mod ReaderSteps
