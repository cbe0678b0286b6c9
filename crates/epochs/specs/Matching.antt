pub mod Decision
pub mod Epochs
pub mod EpochsLeft
pub mod Items
