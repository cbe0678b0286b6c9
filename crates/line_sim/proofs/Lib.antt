mod InFlight
mod LinesBegin
mod Made
pub mod Registered
pub mod CanBeServed
pub mod Events
mod FewerDue
mod IdleTimers
pub mod Refusals
mod Courses
pub mod RunsMore
mod PadsRun
pub mod Stepped
pub mod Resting
pub mod Receipts
mod Matched
