-- The laws behind the promises of src/lib.rt, and for those who call it.
pub mod Series
pub mod Progress
pub mod Places
pub mod Lines
