pub mod Links
pub mod Packets
