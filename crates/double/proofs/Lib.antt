-- Laws of `double`: doubles that more than one crate needs: sizes, leftovers, bits, a sum of a product rounded once.
pub mod Literals
pub mod Sign
pub mod Sizes
pub mod Nonnegative
pub mod Tests
pub mod Over
pub mod Squares
pub mod Left
pub mod Whole
pub mod Once
pub mod Finite
pub mod Near
pub mod Units
