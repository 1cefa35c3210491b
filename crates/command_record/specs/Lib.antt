-- What `Runs` of mcap_app reaches, in the order to read it.
pub mod ReportTexts
pub mod Record
pub mod Sinks
pub mod Watched
pub mod WatchedAnswer
-- What the functions of this crate and its proofs say besides.
pub mod RecordSteps
pub mod Sources
pub mod SinkSteps
pub mod WatchedSteps
pub mod Unwatched
