pub mod Judging
pub mod Shown
