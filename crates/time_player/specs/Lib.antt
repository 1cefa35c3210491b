-- What `Runs` of mcap_app reaches, in the order to read it.
pub mod DataOfMessages
pub mod Text
pub mod Stretches
-- What the functions of this crate and its proofs say besides.
pub mod Asking
pub mod Heads
pub mod Keeping
pub mod Lent
pub mod Lines
pub mod Messages
pub mod Ordering
pub mod Printing
pub mod Putting
pub mod Reading
pub mod Replaying
