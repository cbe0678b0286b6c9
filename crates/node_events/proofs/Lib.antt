pub mod Sending
pub mod Writing
pub mod Opening
mod Users
pub mod RolesStay
pub mod SwitchSending
pub mod Switching
mod Waiting
mod Turns
