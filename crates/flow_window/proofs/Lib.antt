pub mod CountSteps
mod Walks
pub mod Pools
pub mod Weights
