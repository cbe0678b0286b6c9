pub mod ReadBack
pub mod Own
pub mod Asking
