-- The laws that the functions' proofs cite, the theorems on positions, and worked examples.
pub mod Finite
pub mod Exact
pub mod Theorems
pub mod Examples
