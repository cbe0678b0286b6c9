pub mod Addresses
pub mod Reads
pub mod Says
pub mod Ways
pub mod SaysLine
pub mod Bindings
pub mod Lines
pub mod Checks
