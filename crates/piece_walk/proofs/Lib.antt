mod Passing
mod Windows
mod More
mod Stepping
pub mod Marks
pub mod Standing
