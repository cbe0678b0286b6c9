pub mod Wire
pub mod Reading
pub mod Hello
pub mod Carrier
pub mod Laws
pub mod Opening
pub mod CutOff
