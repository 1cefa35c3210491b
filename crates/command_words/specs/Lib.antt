-- What `Runs` of mcap_app reaches, in the order to read it.
pub mod Defaults
-- What the functions of this crate and its proofs say besides.
pub mod Synopses
pub mod Items
pub mod Commands
pub mod Matches
pub mod CommandLine
