pub mod States
pub mod Rows
pub mod Follows
pub mod Notes
pub mod TableClauses
