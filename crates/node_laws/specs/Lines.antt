pub mod NodeLine
pub mod Events
pub mod Fit
pub mod Joint
pub mod Steps
pub mod LineLaw
pub mod LineRest
