-- The definitions of the crate, in reading order. `Nodes` holds what only the laws speak of.
pub mod Cutting
pub mod Nodes
