-- What the contracts of the passes cite.
pub mod Lines
