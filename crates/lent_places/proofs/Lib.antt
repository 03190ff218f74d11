-- Laws of `lent_places`: two outcomes of one promise coincide.
pub mod Unique
