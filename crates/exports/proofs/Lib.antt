-- Statement 3 for the exports, and lists with the calls of item 1.
pub mod Rows
pub mod Exported
pub mod StrainExported
pub mod CellExported
