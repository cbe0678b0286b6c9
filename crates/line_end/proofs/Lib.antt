pub mod Steps
pub mod Frames
pub mod Timing
pub mod Calls
