pub mod Channels
pub mod Calls
pub mod Resets
pub mod Acts
pub mod Restarts
pub mod Notes
pub mod Holds
