pub mod InTurn
pub mod Playing
pub mod Stopping
pub mod Programs
