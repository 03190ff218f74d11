-- Definitions of `globe`: a point on the sphere, and a cell's boundary on the sphere.
pub mod Points
pub mod Boundaries
pub mod AsWorked
