-- What `Runs` of mcap_app reaches, in the order to read it.
pub mod Layout
pub mod Arrays
pub mod Maps
pub mod Contents
pub mod Limits
-- What the functions of this crate and its proofs say besides.
pub mod RecordingLimits
pub mod Reading
pub mod ArrayReading
pub mod ContentReading
pub mod MapReading
pub mod Writing
pub mod Laws
pub mod PairBytes
pub mod KeyPasses
pub mod PairsPlace
pub mod ArrayBytes
pub mod ArrayPlaces
pub mod Marks
pub mod Sameness
