mod Apart
mod Restarts
mod Acts
mod Frames
mod Sending
mod Settling
mod Stepping
mod Reading
