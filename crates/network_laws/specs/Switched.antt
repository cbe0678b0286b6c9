pub mod Plans
pub mod IsSwitched
pub mod Histories
pub mod InnerPromise
pub mod SwitchedRest
pub mod Laws
pub mod Idle
