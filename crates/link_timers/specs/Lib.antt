pub mod Role
pub mod Timers
pub mod Running
pub mod ChannelTimers
