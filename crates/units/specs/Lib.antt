-- The definitions that the contracts cite.
pub mod Units
pub mod Runs
