-- Where the voxels of a line are.
pub mod Places
