-- The laws that the proofs cite.
pub mod LoopLaws
pub mod OwnLaws
pub mod AnswerLaws
pub mod FillLaws
