-- Laws of `lent_globe`: rows stored one after the other, whose frame is told first, and that two outcomes of one promise coincide.
pub mod Storing
pub mod Framed
pub mod Unique
