-- What the laws of this crate say besides those of mcap_model.
pub mod Parts
pub mod Repairs
