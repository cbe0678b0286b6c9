pub mod States
pub mod Packets
pub mod Connections
pub mod Calls
pub mod Laws
