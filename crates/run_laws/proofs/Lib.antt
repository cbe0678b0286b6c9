mod Puts
mod Ends
mod Switches
mod Steps
mod Making
mod Runs
pub mod Running
