-- Definitions of `lent_borders`: a boundary in two lent slices.
pub mod Borders
