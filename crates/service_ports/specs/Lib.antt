pub mod Commands
pub mod Options
pub mod Reading
pub mod Writing
pub mod Modes
pub mod Ports
pub mod Counting
pub mod ClientForm
