-- Laws of the C face: the default frame passes, the corners of boundaries have first names, and places have margins.
pub mod Passing
pub mod Named
pub mod Margins
