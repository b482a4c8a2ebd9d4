-- The laws of the definitions in specs/.
pub mod NeededLaws
pub mod AnswerLaws
