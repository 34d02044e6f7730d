pub mod Judging
pub mod Passed
pub mod Seven
pub mod Sizes
