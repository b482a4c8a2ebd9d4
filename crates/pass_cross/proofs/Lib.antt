-- The laws of the definitions in specs/.
pub mod ReadLaws
pub mod AroundLaws
pub mod EdgeLaws
pub mod CrossLaws
pub mod MergeLaws
