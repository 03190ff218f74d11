-- Definitions of `lent_places`: what the calls that are lent a frame return and write.
pub mod Places
