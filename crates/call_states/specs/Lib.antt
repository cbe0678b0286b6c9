pub mod EndStates
pub mod Table
