-- The laws behind the promises of src/lib.rt, and the theorems of demand 3 about the fresh file.
pub mod Splicing
pub mod Outcomes
pub mod Keeping
pub mod Rereading
pub mod Theorems
pub mod Numbers
