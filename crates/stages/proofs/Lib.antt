-- The laws that callers cite, and those of this crate's own proofs.
pub mod TickLaws
pub mod StageLaws
pub mod AdvancedLaws
