-- What `Runs` of mcap_app reaches, in the order to read it.
pub mod NewFiles
-- What the functions of this crate and its proofs say besides.
pub mod Keeping
pub mod Ending
pub mod Readings
