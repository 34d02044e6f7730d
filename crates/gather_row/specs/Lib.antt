-- The definitions that the promises of src/lib.rt and of its callers cite.
pub mod Series
pub mod Gather
