pub mod Back
pub mod Round
pub mod Widths
