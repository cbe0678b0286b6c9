pub mod Phases
pub mod Bridges
pub mod Rows
pub mod Laws
