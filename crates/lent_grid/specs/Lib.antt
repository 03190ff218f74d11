-- Definitions of `lent_grid`: two lines that are lent as eight doubles, and the maps by their numbers.
pub mod Lines
pub mod Numbered
