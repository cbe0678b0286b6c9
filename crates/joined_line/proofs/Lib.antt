pub mod Unread
pub mod Sharing
pub mod Asking
pub mod Making
