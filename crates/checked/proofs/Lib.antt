-- Laws of `checked`: the starred cases hold.
pub mod Starred
