-- The theorems on ranks and slices, which the functions' proofs cite too, and worked examples.
pub mod Inverse
pub mod Theorems
pub mod Mirror
pub mod Examples
