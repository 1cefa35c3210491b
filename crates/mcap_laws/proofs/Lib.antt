mod Sizes
mod Readouts
mod Smallest
mod Broken
pub mod BlockIndexes
pub mod Tails
pub mod StatisticsRight
mod SummaryRules
mod IndexRules
pub mod Scanned
pub mod FirstPieces
pub mod Validity
pub mod Ranges
mod OneMessage
mod Indexing
mod Repeats
mod Order
mod InTurn
mod Recovered
mod Premises
pub mod Leading
mod Repairing
mod PartsKept
mod CutFiles
mod Rewriting
