pub mod Turns
mod Lent
pub mod Parts
pub mod Deliveries
pub mod Expiries
pub mod Failing
pub mod Endings
pub mod Typing
