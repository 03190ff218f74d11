-- Laws of `names`: the corners' table, the kinds of points, their names in a row, the first of them, and the entries.
pub mod Corners
pub mod Sorts
pub mod Rows
pub mod First
pub mod Loops
pub mod Taking
pub mod Laws
pub mod Unique
pub mod Answers
