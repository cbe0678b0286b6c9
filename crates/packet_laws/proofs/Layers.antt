pub mod Channels
pub mod Saying
pub mod Growing
pub mod Layers
pub mod Runs
