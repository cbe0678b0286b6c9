pub mod Queues
pub mod Short
pub mod Windows
pub mod Pieces
pub mod Unsent
