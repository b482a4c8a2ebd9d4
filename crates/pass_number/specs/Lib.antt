-- What the contracts of the numbering pass cite.
pub mod Scan
pub mod Spanning
