pub mod Voxel
pub mod Steps
