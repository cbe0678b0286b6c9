pub mod Books
pub mod Registers
pub mod CallPaths
