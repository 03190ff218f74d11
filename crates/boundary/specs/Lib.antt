-- Definitions of `boundary`: corners, landing, crossing points, boundaries.
pub mod Corners
pub mod Landing
pub mod CrossingPoints
pub mod Boundaries
pub mod AsWalked
pub mod Checked
