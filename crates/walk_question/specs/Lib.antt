-- Definitions of `walk_question`: the line that asks for a walk.
pub mod Reading
pub mod Fields
