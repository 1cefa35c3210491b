-- What `Runs` of mcap_app reaches, in the order to read it.
pub mod Runs
-- What the functions of this crate and its proofs say besides.
pub mod Allowed
pub mod Laws
pub mod Completeness
pub mod Readable
pub mod FilteredFiles
pub mod FilterRuns
