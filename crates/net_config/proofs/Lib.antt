mod Answering
mod Counting
mod Naming
mod Planning
mod Own
pub mod FirstBroken
