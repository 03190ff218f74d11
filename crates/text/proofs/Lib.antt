-- Laws of `text`: numbers in decimal and in hexadecimal, bytes put one after the other, a line in the first bytes of a buffer, and that two outcomes of one promise coincide.
pub mod Decimals
pub mod Hexadecimals
pub mod Putting
pub mod Room
pub mod Unique
