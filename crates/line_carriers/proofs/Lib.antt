pub mod Streams
pub mod Hellos
pub mod Openings
pub mod CutOffs
