pub mod PlaceLaws
pub mod DueLaws
pub mod RunningLaws
pub mod ChannelSets
