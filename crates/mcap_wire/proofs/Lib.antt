pub mod Numbers
pub mod Fields
pub mod Framing
pub mod TextMaps
mod MapWalks
pub mod PairWalks
mod KeyPassLemmas
mod DoubleKeys
mod PlaceLemmas
pub mod ArrayLemmas
mod ArrayPlaceLemmas
mod MarkLemmas
pub mod Contents
mod KeyOrder
