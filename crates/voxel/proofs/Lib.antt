pub mod Locating
pub mod Stepping
pub mod Sized
pub mod Theorems
