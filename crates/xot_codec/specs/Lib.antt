pub mod Xot
pub mod Laws
pub mod Facilities
