pub mod Window
pub mod Counts
pub mod Naming
pub mod Pool
pub mod Slot
pub mod SlotView
pub mod PoolView
pub mod Number
