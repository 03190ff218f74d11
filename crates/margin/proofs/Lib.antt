-- Laws of `margin`: leftovers counted in 2^51sts, what the margin says of the neighbours' centres, unique answers.
pub mod Counting
pub mod Scaling
pub mod Neighbours
pub mod Bounds
pub mod Exact
pub mod Points
pub mod Order
pub mod Unique
