-- Laws of `vec3d`: the frame's test, sizes, the nearest face, unique answers.
pub mod Series
pub mod Passing
pub mod OnePass
pub mod Doubt
pub mod Sizes
pub mod Comparing
pub mod Choosing
pub mod Held
pub mod Order
pub mod Unique
