-- The laws that the functions' proofs rest on, and that callers cite.
pub mod Stored
pub mod Words
pub mod Blocks
