-- The laws of the definitions in specs/.
pub mod OpenLaws
pub mod ListedLaws
pub mod HoldsLaws
