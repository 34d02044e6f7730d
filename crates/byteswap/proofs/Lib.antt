-- The laws that the functions' proofs rest on, and the theorems.
pub mod Whole
pub mod Answers
pub mod Places
pub mod Fields
pub mod Regions
pub mod Swapped
pub mod Again
pub mod Theorems
