-- Definitions of `ask_call`: the reply to a question, and how numbers and doubles hold it.
pub mod Replies
