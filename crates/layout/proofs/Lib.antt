pub mod Starting
pub mod Checking
