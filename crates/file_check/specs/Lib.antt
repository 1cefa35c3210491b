-- What `Runs` of mcap_app reaches, in the order to read it.
pub mod Checking
pub mod Halting
pub mod CutFiles
pub mod Lacking
-- What the functions of this crate and its proofs say besides.
pub mod MessageCounts
pub mod RecordCounts
pub mod LastChunk
pub mod IndexedRecords
pub mod TopRecords
pub mod Givens
pub mod Gathering
pub mod Reading
pub mod CheckSteps
pub mod HaltFlaws
pub mod Laws
