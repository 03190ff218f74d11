-- Definitions of `level`: levels: which are taken, unit scale and limit.
pub mod Levels
