-- The definitions that the contracts cite: the rank rule, and the time of a rank.
pub mod Ranks
pub mod Times
