pub mod Making
pub mod Parting
