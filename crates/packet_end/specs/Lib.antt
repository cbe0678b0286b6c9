pub mod PacketEnd
pub mod Touched
pub mod Params
pub mod Pooled
pub mod PooledView
pub mod EndView
pub mod Sending
