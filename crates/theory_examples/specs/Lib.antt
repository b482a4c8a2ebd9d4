-- The volumes.
pub mod Large
