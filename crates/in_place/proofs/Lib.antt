-- Laws of `in_place`: a lent place: stored or unchanged.
pub mod Lending
