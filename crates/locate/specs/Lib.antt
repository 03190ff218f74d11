-- Definitions of `locate`: the place of a vector, rows, and the batch.
pub mod Locating
pub mod Batch
