-- Definitions of `root`: the square root of a double.
pub mod Root
pub mod AsWorked
