-- Laws of `faceijk`: places: the tables, steps, the pentagon turn, demand 3, the starred places, unique answers.
pub mod Faces
pub mod Words
pub mod Stepping
pub mod Edges
pub mod Taking
pub mod Nearer
pub mod Back
pub mod Crossing
pub mod Corner
pub mod Settling
pub mod Demand3
pub mod Unique
