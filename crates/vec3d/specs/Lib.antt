-- Definitions of `vec3d`: unit vectors, the frame, the nearest face.
pub mod Vectors
pub mod Frame
pub mod Nearest
pub mod AsAsked
pub mod Sizes
