pub mod Table
pub mod Values
pub mod Forwarding
pub mod EditingFunctions
pub mod Settings
