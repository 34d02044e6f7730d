-- The theorems on the slices, the ranks and the positions of a file.
mod Shown
pub mod Slices
pub mod Ranks
pub mod Positions
