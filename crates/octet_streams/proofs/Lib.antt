mod WholeRead
pub mod Written
