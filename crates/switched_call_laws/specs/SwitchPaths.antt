pub mod Sight
pub mod Network
pub mod SwitchPathLaws
