-- Laws of `reply`: refusals: their numbers, what an entry says, the foremost.
pub mod Tests
pub mod Numbers
pub mod Entries
pub mod Foremost
