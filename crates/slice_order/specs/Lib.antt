-- The definitions that the contracts and the theorems cite.
pub mod EachOnce
pub mod Slices
