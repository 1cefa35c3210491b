mod Added
mod Backs
pub mod FeedReading
mod Made
mod Printed
mod Recordings
mod Silent
mod Soundness
mod Spots
mod Stores
mod Summed
mod SumsTold
mod Told
mod Totals
