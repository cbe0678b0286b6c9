pub mod Hearing
pub mod Making
pub mod Blocks
pub mod Acting
pub mod Frames
pub mod Nothing
pub mod Settling
