pub mod Giving
pub mod Owned
pub mod Hearing
pub mod Passing
