pub mod Turns
pub mod Apart
pub mod Lives
pub mod Runs
pub mod Blind
