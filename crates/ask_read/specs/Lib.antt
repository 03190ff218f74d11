-- Definitions of `ask_read`: what a word of a question says as a field, and what a line asks.
pub mod Scan
pub mod Words
pub mod Questions
