pub mod Pieces
pub mod Feeding
pub mod Kept
