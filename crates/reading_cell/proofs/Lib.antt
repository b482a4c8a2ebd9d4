-- The laws that the proofs cite.
pub mod BisectLaws
pub mod NumberLaws
pub mod LookupLaws
