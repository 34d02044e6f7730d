-- The definitions that the contracts and theorems cite.
pub mod Turned
