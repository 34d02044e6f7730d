pub mod Outcome
pub mod After
