pub mod AcceptedPacket
mod Cases
mod DceSteps
mod DteSteps
mod Events
pub mod Flights
pub mod Frames
mod Halves
pub mod Inv
pub mod LinkLaw
pub mod Naming
pub mod Notes
pub mod Reach
pub mod Queues
pub mod NamedCalls
mod Rows
mod Rules
mod Steps
pub mod Fitting
pub mod Lines
pub mod Sessions
pub mod Rising
mod PlainFrames
pub mod Unsent
pub mod Links
mod Calls
