-- What `Runs` of mcap_app reaches, in the order to read it.
pub mod Assembled
pub mod Recorded
pub mod Findings
-- What the functions of this crate and its proofs say besides.
pub mod Writing
pub mod Lanes
pub mod Onto
pub mod Laws
pub mod Entries
