mod Places
mod Serving
mod SwitchTurns
mod LineEndEvents
mod UserNodeEvents
mod Empties
mod Passing
mod Carrying
pub mod Saying
