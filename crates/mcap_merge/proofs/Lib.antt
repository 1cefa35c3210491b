mod Headed
pub mod Marking
pub mod Held
mod Joined
mod Contents
pub mod Merging
pub mod Stores
pub mod Profiles
mod Used
mod ReadBack
mod Written
pub mod Filing
pub mod Sources
mod Inserted
pub mod InTurn
mod FewIds
mod MergeThere
mod SeenContents
mod SeenSchemas
pub mod Putting
mod Counted
mod Begun
pub mod Sound
mod ListedPieces
pub mod Lengths
pub mod Behind
mod MergeFiled
pub mod Within
mod SpanTimes
pub mod Fitting
mod Laid
pub mod ToldSpans
pub mod ToldMessages
pub mod ToldTurns
pub mod Dropped
pub mod FirstOfAll
pub mod Told
pub mod ToldStays
