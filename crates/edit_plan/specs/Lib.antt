pub mod Fresh
pub mod Refusals
pub mod Planned
