-- Laws of `walk_lines`: how long the lines get, and where they stand.
pub mod Lengths
