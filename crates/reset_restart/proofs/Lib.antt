pub mod ResetRows
pub mod RestartRows
