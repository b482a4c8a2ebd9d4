-- The law that own cells are those of the lowest block (`own_lowest`), the lowest block of a place of the volume (`own_in_lowest`, `first_lowest`), and the laws of this crate's own proofs.
pub mod LowestLaws
pub mod PlaceLaws
