-- A call: its set-up, its epochs, what is on the way in one.
pub mod SetUp
pub mod SettingUp
pub mod OneEpoch
pub mod Pipes
pub mod Asking
pub mod Saying
pub mod Hearing
pub mod Delivery
pub mod Levels
