pub mod Reset
pub mod Restart
