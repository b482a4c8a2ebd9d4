-- The definitions of the crate, in reading order.
pub mod Job
pub mod Stages
pub mod Calls
pub mod Declines
pub mod Outcomes
pub mod Book
pub mod Statement
pub mod Sheets
