-- What `Runs` of mcap_app reaches, in the order to read it.
pub mod Cat
pub mod Check
pub mod Counts
pub mod Firsts
pub mod Json
pub mod Told
pub mod Info
pub mod FileCommand
pub mod Indexed
pub mod TwoFiles
pub mod Play
-- What the functions of this crate and its proofs say besides.
pub mod IdTables
pub mod ToldSteps
pub mod Writing
pub mod Laws
pub mod Failing
pub mod TwoFilesSteps
pub mod PlaySteps
