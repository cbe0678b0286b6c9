pub mod Lines
pub mod LineRecords
pub mod Pads
mod Turning
pub mod Asking
pub mod Hearing
pub mod Making
pub mod Opening
mod PadEnds
pub mod QuietEnds
pub mod QuietTurns
pub mod QuietOpens
pub mod Expiring
pub mod Rooms
