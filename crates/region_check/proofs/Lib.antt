-- Laws of `region_check`: records in order, where faces begin, and that membership is what reading every record says.
pub mod Wrong
pub mod Sorted
pub mod Begins
pub mod Checking
pub mod Listing
pub mod Unique
