-- The laws that the proofs cite.
pub mod SinkLaws
pub mod NumberLaws
