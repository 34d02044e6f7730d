-- The laws that the functions' proofs rest on.
pub mod Blocks
