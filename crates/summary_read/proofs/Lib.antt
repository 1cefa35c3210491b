pub mod Answered
pub mod Walking
pub mod FileEnds
pub mod FileFront
pub mod Holding
pub mod Listing
pub mod Composing
pub mod Flawed
