pub mod Seen
pub mod RegisterPromise
pub mod RegisterLaws
pub mod RegisterRest
pub mod Giving
