pub mod Determined
pub mod LostFrameRun
