pub mod Making
pub mod Between
pub mod InFlight
pub mod Runs
pub mod Expiries
pub mod Receipts
pub mod Courses
pub mod Stepping
