pub mod Inverse
pub mod Stores
pub mod Tabulate
