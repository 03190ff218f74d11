-- Definitions of `face_projection`: from a unit vector to a plane point.
pub mod Projection
