pub mod WideSet
