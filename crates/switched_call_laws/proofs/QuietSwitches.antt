pub mod Ends
pub mod Lines
pub mod Later
pub mod Events
pub mod Quieting
pub mod Fewer
