-- Definitions of `lent_regions`: what writing a list returns and leaves in the lent bytes.
pub mod Regions
