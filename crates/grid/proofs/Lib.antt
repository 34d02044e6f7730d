pub mod Entry
pub mod Limit
pub mod Axes
pub mod Voxels
pub mod Bounds
pub mod Steps
