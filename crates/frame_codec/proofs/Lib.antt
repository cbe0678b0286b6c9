pub mod Heads
pub mod Outcomes
pub mod Grammar
