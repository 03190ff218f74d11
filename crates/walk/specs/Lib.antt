-- Definitions of `walk`: the text of a walk, and how it is written into a buffer.
pub mod Texts
pub mod Writing
