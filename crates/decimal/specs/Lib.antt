-- The definition that the contracts cite.
pub mod Decimal
