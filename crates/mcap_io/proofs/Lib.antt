pub mod Appending
pub mod Calls
pub mod Filling
pub mod Fronts
pub mod LentStores
pub mod Notes
pub mod Walking
