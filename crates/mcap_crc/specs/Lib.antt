-- What `Runs` of mcap_app reaches, in the order to read it.
pub mod Remainder
-- What the functions of this crate and its proofs say besides.
pub mod Checksums
pub mod Register
pub mod Fold
pub mod Gather
