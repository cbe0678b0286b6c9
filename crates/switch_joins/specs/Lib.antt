pub mod Turning
pub mod Direction
pub mod Joins
pub mod Outline
pub mod Plan
pub mod Held
pub mod TurnedView
pub mod ChannelSet
