-- How much is owed between two ends of a line.
mod OwedRows
pub mod MayCome
pub mod Fitting
pub mod Loosening
pub mod Barred
pub mod Draining
pub mod Turning
pub mod Growing
pub mod Receiving
pub mod Handing
pub mod NoRelink
pub mod NoRelinkEvents
pub mod Relinking
pub mod OwedHolds
