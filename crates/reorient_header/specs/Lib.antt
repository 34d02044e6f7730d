-- The definitions that the contracts and laws cite.
pub mod After
