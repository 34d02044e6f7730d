pub mod Theorems
pub mod Writing
