-- The definitions that the contracts cite.
pub mod Ticks
pub mod Advanced
