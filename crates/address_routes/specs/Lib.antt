pub mod Routes
pub mod Tree
pub mod RoutesView
