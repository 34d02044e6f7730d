-- The laws that the functions' proofs cite, and the theorems on slice answers.
pub mod Answers
pub mod Theorems
