pub mod Apart
pub mod Readback
pub mod Kept
pub mod ReadOnce
pub mod Walking
