-- The laws of lines of voxels.
pub mod Files
mod Calls
pub mod Theorems
