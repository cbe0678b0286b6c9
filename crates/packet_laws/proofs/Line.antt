-- The law of a line: what its two layers do is what the handshakes of each channel do.
mod Rows
pub mod Stored
pub mod Agreement
pub mod Acts
pub mod Lines
pub mod Outcomes
pub mod Moves
pub mod Offering
pub mod Arriving
pub mod Beginning
pub mod Resting
pub mod Calling
pub mod Using
pub mod Answering
pub mod Consequences
pub mod LineHolds
pub mod Counted
