-- The definitions of the crate, in reading order.
pub mod Cells
pub mod Calls
pub mod Declines
pub mod Outcomes
