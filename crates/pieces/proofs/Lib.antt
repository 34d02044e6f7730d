pub mod Fronts
mod Kept
pub mod Theorems
pub mod Voxels
