-- The laws behind the promises of src/lib.rt.
pub mod Storing
