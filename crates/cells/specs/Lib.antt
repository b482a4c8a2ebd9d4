-- The definitions of the crate, in reading order.
pub mod Box
pub mod Extents
pub mod Grid
pub mod Steps
pub mod Row
