pub mod Quiet
pub mod Due
