-- Definitions of `coordijk`: coordinates, the table of maps, coordinates with sign.
pub mod Coordinates
pub mod Maps
pub mod Signed
