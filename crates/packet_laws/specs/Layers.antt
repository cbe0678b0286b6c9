pub mod Epochs
pub mod Acts
pub mod Counts
pub mod NumbersLaw
pub mod LayerRun
