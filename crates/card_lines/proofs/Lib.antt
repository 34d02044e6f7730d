-- The laws of the card's lines.
pub mod Texts
