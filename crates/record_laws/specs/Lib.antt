pub mod Words
pub mod Books
pub mod Registers
pub mod CallPaths
