pub mod OneLine
pub mod NodeEvents
pub mod Network
pub mod AtSwitch
pub mod EventView
pub mod NextDue
pub mod Opening
pub mod Puts
