pub mod Refused
pub mod Taken
pub mod Frames
pub mod Sayable
