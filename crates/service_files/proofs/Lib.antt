pub mod Each
pub mod Prefixes
mod Fitting
