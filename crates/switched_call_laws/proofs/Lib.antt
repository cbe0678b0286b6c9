pub mod SwitchRecords
pub mod JoinedCalls
pub mod QuietSwitches
pub mod SwitchPaths
