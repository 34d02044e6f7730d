mod Spans
pub mod Answers
pub mod Theorems
