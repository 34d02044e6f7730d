-- The laws behind the promises of src/lib.rt.
pub mod Exchanging
pub mod Sizing
pub mod Cutting
pub mod Planning
pub mod Deciding
pub mod Theorems
