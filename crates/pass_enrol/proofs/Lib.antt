-- The laws that callers cite, and those of this crate's own proofs.
pub mod PlaceLaws
pub mod KeyLaws
pub mod RowLaws
