-- Definitions of `lent`: what a C function returns, and what its lent slices hold afterwards.
pub mod Lent
