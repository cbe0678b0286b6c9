pub mod Station
pub mod Terminus
