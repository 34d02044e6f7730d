-- The theorems on the slice of a rank.
pub mod Theorems
