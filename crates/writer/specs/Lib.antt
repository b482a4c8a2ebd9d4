-- The definitions that the contract of `write_record` cites, and those that only inner functions cite.
pub mod Inner
pub mod Writing
