-- The definitions of the crate, in reading order.
pub mod Fields
pub mod Record
