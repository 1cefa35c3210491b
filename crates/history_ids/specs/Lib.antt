-- What `Runs` of mcap_app reaches, in the order to read it.
pub mod DeclarationFields
pub mod FeedContents
-- What the functions of this crate and its proofs say besides.
pub mod Ids
pub mod Tables
pub mod DeclarationFits
