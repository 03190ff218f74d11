-- Laws of `lent_grid`: the order of the two refusals that stand at the C face alone.
pub mod Order
