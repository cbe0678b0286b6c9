pub mod Frame
pub mod Spelling
pub mod FrameForm
pub mod Faults
pub mod Views
pub mod Reading
