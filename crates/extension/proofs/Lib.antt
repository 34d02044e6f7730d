pub mod Signs
pub mod Found
pub mod Regions
pub mod Walks
pub mod Pieces
pub mod Fills
pub mod Listings
pub mod Numbers
