pub mod Edited
pub mod Echoes
pub mod Shown
