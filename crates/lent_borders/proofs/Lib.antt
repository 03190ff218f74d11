-- Laws of `lent_borders`: rows stored one after the other, and that two outcomes of one promise coincide.
pub mod Storing
pub mod Unique
