-- The laws that the proofs cite.
pub mod TextLaws
pub mod PrintLaws
pub mod LabelledLaws
