pub mod Lines
pub mod Octets
pub mod FrameLines
pub mod Converting
