pub mod Causes
pub mod SwitchLine
pub mod Pooled
pub mod LineView
pub mod OfLine
pub mod Making
