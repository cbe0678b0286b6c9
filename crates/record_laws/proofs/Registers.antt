pub mod Positions
pub mod Steps
pub mod Writing
pub mod Seeing
pub mod Making
pub mod Promising
pub mod Having
pub mod Missing
