pub mod Pairing
pub mod Laws
