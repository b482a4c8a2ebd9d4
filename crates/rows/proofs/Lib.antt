-- The laws that the proofs cite.
pub mod ReadLaws
pub mod OrderLaws
