pub mod Requests
pub mod Hearing
pub mod Answers
pub mod Data
