pub mod Keepings
pub mod Inners
pub mod Given
pub mod Reading
pub mod Files
pub mod Ripe
