pub mod Grid
pub mod Axes
pub mod Sizes
