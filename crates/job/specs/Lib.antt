-- The definitions of the crate.
pub mod JobState
pub mod JobWith
pub mod Lent
