pub mod MessageForm
pub mod Reading
