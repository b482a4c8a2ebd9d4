-- What the contracts of the exports cite.
pub mod Exports
