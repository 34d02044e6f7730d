-- The theorems on the voxels of a file.
mod Indexes
pub mod Shown
pub mod Voxels
pub mod Steps
