pub mod End
pub mod Held
pub mod EndView
