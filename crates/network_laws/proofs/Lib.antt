pub mod Switched
pub mod Flying
pub mod Shapes
pub mod Uniform
pub mod Channels
pub mod NodeKinds
pub mod Fitting
pub mod Leaving
mod FaithfulLines
pub mod Answering
pub mod Lines
mod LineCourses
pub mod Made
pub mod PlacedTime
pub mod Mapped
pub mod Due
pub mod PadTerminals
mod Elsewhere
pub mod Courses
pub mod HandedCourses
pub mod MadeCourses
