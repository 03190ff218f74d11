-- Definitions of `lent_globe`: a boundary on the sphere in two lent slices.
pub mod Globes
