pub mod Node
pub mod NodeView
pub mod Making
pub mod Questions
