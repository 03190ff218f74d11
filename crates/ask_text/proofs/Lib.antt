-- Laws of `ask_text`: how long values get, and the names of the refusals.
pub mod Lengths
pub mod Names
