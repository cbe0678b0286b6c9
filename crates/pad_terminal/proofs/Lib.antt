pub mod Reports
pub mod Echo
