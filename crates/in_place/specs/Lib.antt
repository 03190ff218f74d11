-- Definitions of `in_place`: settling on a lent place.
pub mod Lent
