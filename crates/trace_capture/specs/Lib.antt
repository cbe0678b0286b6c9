pub mod Trace
pub mod Lines
pub mod Capture
pub mod Converting
