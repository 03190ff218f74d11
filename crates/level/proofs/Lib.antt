-- Laws of `level`: levels: sizes once over the level, what the tests leave, unique answers.
pub mod Computed
pub mod Sizes
pub mod Taking
pub mod Unique
