-- The laws behind the promises of src/lib.rt, and for those who call it.
pub mod Laws
pub mod Moves
pub mod Settled
