-- The laws that the proofs cite, and the statement for readers.
pub mod LabellingLaws
pub mod OneBlock
