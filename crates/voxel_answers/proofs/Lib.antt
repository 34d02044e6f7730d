-- The theorem on the struct of a file that was read.
pub mod Theorems
