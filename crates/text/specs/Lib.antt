-- Definitions of `text`: numbers as bytes, and writing into a lent buffer.
pub mod Numbers
pub mod Writing
