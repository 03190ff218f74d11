-- Definitions of `walk_lines`: the lines of a walk, byte by byte.
pub mod Lines
