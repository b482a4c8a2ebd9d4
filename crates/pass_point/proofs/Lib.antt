-- The laws that callers cite (FoundLaws), and those of this crate's own proofs.
pub mod PointLaws
pub mod StoreLaws
pub mod FoundLaws
