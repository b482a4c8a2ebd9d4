-- The laws that the proofs cite.
pub mod WalkLaws
pub mod LayerOf
pub mod SeamWalks
