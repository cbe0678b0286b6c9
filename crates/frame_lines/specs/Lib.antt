pub mod Lines
pub mod Sockets
