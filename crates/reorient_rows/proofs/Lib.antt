pub mod Exact
pub mod Integers
pub mod Laws
pub mod Patterns
