pub mod Processes
pub mod Moves
pub mod Events
pub mod Running
pub mod FirstDue
pub mod Making
pub mod PartedRun
pub mod Restarting
