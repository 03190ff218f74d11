-- Laws of `region_write`: the room, where faces begin, bytes put one after the other, and that check and writer determine each other.
pub mod Room
pub mod Beginning
pub mod Putting
pub mod Ready
pub mod RoundTrip
pub mod Canonical
pub mod Rewriting
pub mod Checked
pub mod Unique
