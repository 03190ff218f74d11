-- Laws of `locate`: places given out, leftovers passed on, vectors that pass, rows of a batch one by one, unique answers.
pub mod Entering
pub mod Signed
pub mod Giving
pub mod PassedOn
pub mod UnitVectors
pub mod Near
pub mod Writing
pub mod RowByRow
pub mod Order
pub mod Unique
