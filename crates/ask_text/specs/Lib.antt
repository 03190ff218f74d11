-- Definitions of `ask_text`: values and refusals as bytes.
pub mod Texts
