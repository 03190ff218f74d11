-- Definitions of `margin`: how far a point was from the nearest border of its hexagon, and from centres.
pub mod Centres
pub mod Margins
