-- Definitions of `double`: doubles: constants, sizes, whole parts.
pub mod Double
pub mod Sizes
