pub mod Acting
pub mod Making
pub mod Runs
pub mod OneSwitch
pub mod Trunk
pub mod Pads
pub mod Numbers
pub mod Sizes
