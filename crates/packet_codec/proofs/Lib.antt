pub mod Addresses
pub mod Cases
pub mod Octets
pub mod Blocks
pub mod Spellings
pub mod Forms
pub mod Faults
