pub mod Orders
pub mod Indexes
pub mod Images
pub mod Gathering
pub mod Axes
pub mod Examples
pub mod Members
pub mod Seven
