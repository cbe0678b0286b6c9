pub mod Host
pub mod Making
pub mod HostView
pub mod Saying
pub mod Asking
