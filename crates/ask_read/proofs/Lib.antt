-- Laws of `ask_read`: digits and the room they need, numbers in decimal, patterns of doubles, decimals; a line split at its spaces, its fields one by one.
pub mod Scanning
pub mod Spelling
pub mod Patterns
pub mod Decimals
pub mod Rounded
pub mod Numerals
pub mod Splitting
pub mod Filling
pub mod Rows
pub mod Examples
