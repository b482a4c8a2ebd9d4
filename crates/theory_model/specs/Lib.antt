-- The definitions of the crate, in reading order.
pub mod Model
pub mod Scripts
pub mod Volumes
