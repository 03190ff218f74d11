-- Laws of `lent`: the ways in which a C function ends, the order of its refusals, what stands in a slice, and that two outcomes of one promise coincide.
pub mod Lent
pub mod Chunk
pub mod Writing
pub mod Rows
pub mod Framed
pub mod Both
pub mod Order
pub mod Unique
