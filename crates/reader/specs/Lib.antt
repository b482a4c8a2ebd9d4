-- The definitions that the contract of `read_record` cites, and those of its inner functions.
pub mod Loaded
pub mod Parts
