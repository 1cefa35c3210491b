-- What `Runs` of mcap_app reaches, in the order to read it.
pub mod Sources
pub mod RefusedReadings
pub mod HeadTimes
-- What the functions of this crate and its proofs say besides.
pub mod Taking
pub mod Scanning
pub mod Scanners
pub mod Lending
pub mod Walking
pub mod Heads
