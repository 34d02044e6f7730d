pub mod Floats
pub mod Lists
pub mod Naturals
pub mod Same
