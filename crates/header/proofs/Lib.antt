pub mod Front
pub mod Agree
pub mod Distinct
