pub mod Calls
pub mod JoinLaws
