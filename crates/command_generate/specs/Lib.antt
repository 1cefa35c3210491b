-- What `Runs` of mcap_app reaches, in the order to read it.
pub mod Generator
pub mod Feeds
pub mod Sums
pub mod SumReading
pub mod Lines
pub mod Back
pub mod Making
pub mod Generating
-- What the functions of this crate and its proofs say besides.
pub mod Unread
pub mod FeedLaws
pub mod SumSteps
pub mod Allowed
pub mod Laws
