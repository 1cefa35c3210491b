-- What `Runs` of mcap_app reaches, in the order to read it.
pub mod Causes
pub mod Pass
pub mod Lanes
pub mod Feeds
-- What the functions of this crate and its proofs say besides.
pub mod PassCalls
pub mod Kept
pub mod Sizes
pub mod Steps
pub mod Laws
pub mod Tapes
pub mod Listings
pub mod Stores
