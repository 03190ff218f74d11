-- Definitions of `ask_write`: the line of an answer.
pub mod Texts
