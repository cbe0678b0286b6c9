pub mod Fitting
pub mod Owing
pub mod Sending
pub mod Unsent
