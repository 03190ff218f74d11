-- Laws of `ask_answer`: one answer.
pub mod Saying
