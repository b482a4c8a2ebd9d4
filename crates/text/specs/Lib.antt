-- The definitions of the crate, in reading order.
pub mod Words
pub mod Request
pub mod Listing
