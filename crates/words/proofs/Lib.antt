-- The laws that the functions' proofs rest on, and that callers cite.
pub mod Bytes
pub mod Exchange
pub mod Steps
