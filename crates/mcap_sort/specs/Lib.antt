-- What `Runs` of mcap_app reaches, in the order to read it.
pub mod Sorted
pub mod Sorting
-- What the functions of this crate and its proofs say besides.
pub mod Declaring
pub mod Gathering
pub mod Putting
pub mod Turns
pub mod SortSteps
pub mod Laws
