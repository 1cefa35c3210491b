-- What `Runs` of mcap_app reaches, in the order to read it.
pub mod PassedLimits
-- What the functions of this crate and its proofs say besides.
pub mod Files
pub mod Cutting
pub mod Body
pub mod Told
pub mod Declaring
pub mod Laid
pub mod Offsets
pub mod Filed
pub mod Closing
pub mod Sectioned
pub mod Judging
pub mod Repeating
pub mod FullIndex
