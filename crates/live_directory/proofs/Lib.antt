pub mod Empty
pub mod Beginnings
pub mod Histories
pub mod Adding
pub mod Taking
pub mod Sending
pub mod Reading
