-- What `Runs` of mcap_app reaches, in the order to read it.
pub mod Fields
pub mod Records
pub mod Owned
-- What the functions of this crate and its proofs say besides.
pub mod RecordReading
pub mod Parsed
pub mod OwnedReading
pub mod Laws
