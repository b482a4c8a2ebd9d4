-- The laws of the definitions in specs/.
pub mod LineLaws
pub mod WalkLaws
