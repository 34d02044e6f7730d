pub mod Answers
pub mod File
pub mod Theorems
pub mod Before
