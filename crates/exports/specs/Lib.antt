-- The definitions of the crate.
pub mod Exports
pub mod Calls
pub mod StrainCalls
pub mod CellCalls
