-- The laws that the proofs cite, and the statement for readers.
pub mod FillLaws
pub mod Filled
