-- The definitions that the contracts cite, and the case in which a position is exact.
pub mod Positions
