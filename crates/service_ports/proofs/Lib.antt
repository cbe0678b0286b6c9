pub mod Forward
pub mod Forms
pub mod PortsHeard
pub mod ClientReading
pub mod ClientKeys
pub mod Answering
pub mod Counting
