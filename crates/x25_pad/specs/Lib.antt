pub mod Pad
pub mod Sending
pub mod Settling
pub mod PadView
pub mod Making
pub mod BlocksTaken
pub mod Showing
