-- What `Runs` of mcap_app reaches, in the order to read it.
pub mod Picked
pub mod Filtering
-- What the functions of this crate and its proofs say besides.
pub mod Picking
pub mod Laws
pub mod FilteredHistories
