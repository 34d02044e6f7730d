pub mod Reading
pub mod Before
