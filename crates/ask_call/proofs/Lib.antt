-- Laws of `ask_call`: how the C face's values hold a reply, question by question.
pub mod Holding
pub mod Bordering
pub mod Calls
pub mod Grids
