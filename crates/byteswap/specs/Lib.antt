-- The definitions that the contracts and the theorems cite.
pub mod Swap
pub mod Other
