-- The definitions of the crate.
pub mod EntryContracts
pub mod StrainContracts
pub mod CellContracts
