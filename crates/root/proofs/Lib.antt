-- Laws of `root`: the root of a whole number, the digits of a double's root, that no other double is as near, and that two answers that say the same are one.
pub mod Squares
pub mod Halving
pub mod Scale
pub mod Patterns
pub mod Rounding
pub mod Rules
pub mod Nearest
pub mod Near
pub mod Unique
