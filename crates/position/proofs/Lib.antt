-- The laws that the functions' proofs cite, and the theorems on positions.
pub mod Answers
pub mod Theorems
