mod Halts
mod Statuses
pub mod Whole
pub mod Held
mod Flags
mod Parts
mod Sources
mod KeptSinks
mod Beside
mod WatchEnds
mod WatchedRuns
pub mod Runs
mod Lines
pub mod Answered
mod WatchedParts
mod WatchedFlags
mod WatchedDue
mod WatchedStatuses
pub mod WatchedAnswered
mod Unwatched
