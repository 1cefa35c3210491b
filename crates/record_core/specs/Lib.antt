pub mod Desk
pub mod Holding
pub mod Sights
pub mod Machine
pub mod Stands
pub mod Laws
