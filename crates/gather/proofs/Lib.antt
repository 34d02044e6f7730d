-- The laws behind the promises of src/lib.rt.
mod Laid
mod Runs
mod Order
