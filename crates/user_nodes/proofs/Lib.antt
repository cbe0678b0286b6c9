pub mod Reading
pub mod Sending
pub mod Noted
pub mod Short
pub mod FirstNote
pub mod FirstPadNote
