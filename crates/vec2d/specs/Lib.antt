-- Definitions of `vec2d`: plane points: rounding and that it is the nearest, centre, meeting, near-equality.
pub mod Points
pub mod Rounding
pub mod Nearest
pub mod Roundoff
pub mod SourceFolds
pub mod Checked
pub mod Centre
pub mod Closeness
pub mod Meeting
