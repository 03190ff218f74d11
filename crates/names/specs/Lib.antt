-- Definitions of `names`: the names of a corner, how they are found, and the entries in the paper's numbers.
pub mod Names
pub mod Row
pub mod Entries
