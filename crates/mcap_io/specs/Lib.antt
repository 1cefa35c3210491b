-- What `Runs` of mcap_app reaches, in the order to read it.
pub mod Outside
pub mod Stores
-- What the functions of this crate and its proofs say besides.
pub mod Appending
pub mod OutsideCalls
pub mod StoreAnswers
pub mod StoreSources
pub mod Rooms
pub mod Stretch
pub mod StoreFronts
