-- What `Runs` of mcap_app reaches, in the order to read it.
pub mod Printing
pub mod Texts
pub mod Ran
pub mod OneFile
pub mod Readings
pub mod Endings
pub mod Inputs
pub mod Outputs
-- What the functions of this crate and its proofs say besides.
pub mod OneFileSteps
pub mod Putting
pub mod Scenes
pub mod ReadingSteps
pub mod ComplaintTroubles
pub mod OutputSteps
pub mod InputsSteps
pub mod InputKinds
