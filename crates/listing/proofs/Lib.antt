pub mod Passed
pub mod Filled
