-- The laws that the proofs cite.
pub mod LoadedLaws
