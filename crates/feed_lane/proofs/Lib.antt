mod Accepting
mod AtHand
mod Calls
mod Declaring
mod Feeding
mod Given
pub mod Growing
mod Keeping
pub mod ListMaking
pub mod Members
mod Refusing
pub mod Tapes
mod Walking
