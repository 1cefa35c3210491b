mod Names
pub mod Recoveries
mod RefusedReadings
mod StoreNames
mod MergedStores
mod Mergings
pub mod Merges
pub mod Filterings
mod SortedStores
pub mod Sortings
