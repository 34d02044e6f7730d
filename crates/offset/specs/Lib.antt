-- The definitions that the contracts of `offset` cite, and the one that a law about earlier files does.
pub mod Offset
pub mod Before
