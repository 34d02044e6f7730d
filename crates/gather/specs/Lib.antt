-- The definitions that the promises of src/lib.rt cite.
pub mod Rows
