-- Laws of `region`: tests of every number, the order as one number, what the length's test leaves known, the search by halves, and what the quick question looks at.
pub mod Every
pub mod Keys
pub mod Reading
pub mod Halving
pub mod Local
pub mod Unique
