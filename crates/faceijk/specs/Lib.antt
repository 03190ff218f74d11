-- Definitions of `faceijk`: places: faces, steps, crossing, the pentagon turn, settling, and the entries in the paper's numbers.
pub mod Places
pub mod Faces
pub mod Steps
pub mod Crossing
pub mod Turn
pub mod Walking
pub mod Entries
