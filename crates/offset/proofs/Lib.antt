-- The laws of `offset`. Callers cite Answer (the answer by the bits, and back), Back (a written offset reads as itself)
mod Fraction
mod Pattern
mod Ranges
mod Number
pub mod Answer
pub mod Back
