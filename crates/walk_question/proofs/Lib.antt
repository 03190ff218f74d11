-- Laws of `walk_question`: a line is read as what it asks, and how much of it decides.
pub mod Ending
pub mod Asking
