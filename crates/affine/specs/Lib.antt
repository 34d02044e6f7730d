-- The definitions that the contracts cite: the position, and the case in which it is exact.
pub mod Method
pub mod Whole
