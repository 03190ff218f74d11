-- Laws of `lent_regions`: the order of refusals at the C face, and that two outcomes of one promise coincide.
pub mod Order
pub mod Unique
