-- The laws that the functions' proofs rest on, and that callers cite.
pub mod Units
pub mod Runs
pub mod Places
pub mod Chain
