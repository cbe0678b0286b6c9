pub mod Params
pub mod Waiting
pub mod Gives
pub mod GatewayEnd
pub mod EndView
pub mod Laws
