pub mod Edits
pub mod LaidOut
