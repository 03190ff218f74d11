-- Laws of `ask_write`: how many values are printed, the values in their order, worked examples, and what answering a line means.
pub mod Lengths
pub mod Reading
pub mod Checked
pub mod Laws
