-- Statement 3 for the public entries, and lists with the calls of item 1.
pub mod Service
pub mod StrainService
pub mod CellService
