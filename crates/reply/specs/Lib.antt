-- Definitions of `reply`: the replies: numbers, which refusal is given, what a reply holds.
pub mod Choice
pub mod Text
pub mod Replies
pub mod Order
