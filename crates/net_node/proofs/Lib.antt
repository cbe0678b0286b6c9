pub mod Plans
pub mod NewNodes
mod Due
