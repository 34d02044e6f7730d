pub mod Window
pub mod Marks
pub mod Walking
pub mod Whole
