pub mod Axes
pub mod Reading
pub mod Made
pub mod Volumes
pub mod Theorems
pub mod Voxels
pub mod Positions
pub mod Numbers
