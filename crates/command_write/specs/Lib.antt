-- What `Runs` of mcap_app reaches, in the order to read it.
pub mod Halting
pub mod Recover
pub mod Merge
pub mod Filter
pub mod Sort
-- What the functions of this crate and its proofs say besides.
pub mod HaltingSteps
pub mod MergeSteps
pub mod RecoverSteps
pub mod FilterSteps
pub mod SortingSteps
