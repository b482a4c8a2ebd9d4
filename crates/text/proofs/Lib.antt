-- The laws of the definitions in specs/.
pub mod Example
pub mod SpelledLaws
pub mod CaseLaws
