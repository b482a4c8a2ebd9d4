-- The laws of the definitions in specs/.
pub mod ScanLaws
pub mod AnswerLaws
pub mod WordLaws
pub mod TextLaws
