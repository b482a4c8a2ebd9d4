-- The definitions that the laws cite.
pub mod Tests
