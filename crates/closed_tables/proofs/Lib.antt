-- The laws that callers cite (ClosedLaws), and those of this crate's own proofs.
pub mod OrderLaws
pub mod RowLaws
pub mod ClosedLaws
