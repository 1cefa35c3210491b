-- What `Runs` of mcap_app reaches, in the order to read it.
pub mod ReadInputs
pub mod Reading
pub mod Gathering
pub mod Overlap
pub mod Sound
pub mod Filed
-- What the functions of this crate and its proofs say besides.
pub mod Marks
pub mod Uses
pub mod Inputs
pub mod Joining
pub mod Contents
pub mod Writing
pub mod GatheringSteps
pub mod ReadingSteps
pub mod Pens
pub mod Schemas
pub mod Turns
pub mod Putting
pub mod Pieces
pub mod Filing
