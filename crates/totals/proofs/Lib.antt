-- The laws that the crate's proofs and its callers cite.
pub mod TotalLaws
