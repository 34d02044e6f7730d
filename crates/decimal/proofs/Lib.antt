-- The laws of a number in decimal.
pub mod Decimals
mod Writing
pub mod Examples
