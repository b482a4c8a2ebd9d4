-- The definitions of the crate, in reading order.
pub mod Tables
pub mod Adding
pub mod Calls
pub mod Declines
pub mod Outcomes
