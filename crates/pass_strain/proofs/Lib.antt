-- The laws that callers cite (TakenLaws, AddingLaws), and those of this crate's own proofs.
pub mod TakenLaws
pub mod AddingLaws
pub mod VoxelLaws
pub mod SumLaws
pub mod SpotLaws
pub mod ShownLaws
