-- The laws that the proofs cite.
pub mod MarkLaws
pub mod RequestLaws
