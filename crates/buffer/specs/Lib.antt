-- The lists that the promises of src/lib.rt and of its callers speak of.
pub mod Put
pub mod Fill
pub mod Settled
