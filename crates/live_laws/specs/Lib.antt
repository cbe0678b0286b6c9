pub mod Registers
pub mod Writing
pub mod Living
pub mod LiveRuns
pub mod Blind
