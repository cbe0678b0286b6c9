pub mod Told
pub mod Headline
pub mod Open
pub mod Counts
pub mod BookRest
pub mod Delivery
pub mod AcceptedCalls
pub mod Uses
