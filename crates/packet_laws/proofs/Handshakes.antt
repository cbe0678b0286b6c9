-- Handshakes of requests and confirmations, of which restart, clear and reset are three.
pub mod Handshake
pub mod Walks
pub mod Keeping
pub mod Counting
