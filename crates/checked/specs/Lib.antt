-- Definitions of `checked`: the starred cases of document 01.
pub mod Starred
