-- The laws of the definitions in specs/.
pub mod ComponentLaws
pub mod NumberLaws
pub mod LabelLaws
pub mod CountLaws
pub mod OrderCounts
pub mod OutsideLaws
