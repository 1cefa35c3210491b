mod AgreedFields
mod Assembling
mod BlockStretches
mod Collecting
mod Draining
pub mod EntriesFollow
pub mod EntriesGathered
mod FeedsGiven
mod Filing
pub mod FrontsTold
mod Gathering
pub mod Inners
mod LackingIds
pub mod OneHistory
pub mod ReadBack
mod ShortFiles
pub mod Unfull
pub mod Validity
