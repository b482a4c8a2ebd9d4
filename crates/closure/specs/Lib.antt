-- The definitions of the crate.
pub mod Joined
pub mod Numbered
pub mod Trees
