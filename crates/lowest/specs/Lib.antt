-- The definitions of the crate: the cells that count with a block.
pub mod Lowest
