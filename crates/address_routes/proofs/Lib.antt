pub mod Longest
pub mod Walks
pub mod Collecting
pub mod Growing
pub mod Beginnings
pub mod Adding
