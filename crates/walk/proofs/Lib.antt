-- Laws of `walk`: the text of a walk: whole, in order, with progress.
pub mod Paths
pub mod Stepping
pub mod Meeting
pub mod Writing
pub mod Laws
pub mod Running
