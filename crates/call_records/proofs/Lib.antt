pub mod Growing
mod Fitting
pub mod Sides
pub mod Rooms
pub mod NewRecords
pub mod Ending
pub mod Opening
pub mod Elements
pub mod RecordEpochs
pub mod PairsThere
