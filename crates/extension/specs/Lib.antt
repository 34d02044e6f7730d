pub mod Walk
pub mod Listing
pub mod Fills
pub mod Pieces
