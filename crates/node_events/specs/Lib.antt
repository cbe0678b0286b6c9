pub mod Outcomes
pub mod Sends
pub mod Served
pub mod AnswerRoom
pub mod Users
pub mod Switching
