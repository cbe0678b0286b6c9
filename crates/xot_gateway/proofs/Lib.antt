pub mod Carrying
pub mod AllConnections
pub mod Places
pub mod Short
