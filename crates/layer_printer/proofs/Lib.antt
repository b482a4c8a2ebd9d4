-- The laws that the proofs cite, and the theorems of the crate.
pub mod ColumnLaws
pub mod PageLaws
pub mod PrintLaws
pub mod PlaceLaws
pub mod PrintedLayer
pub mod Examples
