-- What `Runs` of mcap_app reaches, in the order to read it.
pub mod Times
pub mod Spans
-- What the functions of this crate and its proofs say besides.
pub mod SpanHeads
pub mod Surveys
pub mod SurveyLaws
pub mod Parts
pub mod Windows
pub mod Heads
pub mod Pieces
pub mod Cursors
pub mod Stores
pub mod Walks
pub mod WalkLaws
