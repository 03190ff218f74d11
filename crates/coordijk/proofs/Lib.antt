-- Laws of `coordijk`: reducing, distance, turns, scales, coordinates with sign, unique answers.
pub mod Reducing
pub mod Taking
pub mod Distance
pub mod Turning
pub mod Scaling
pub mod Differences
pub mod Lifting
pub mod Unique
