-- Definitions of `ask_answer`: what an answer says.
pub mod Answers
