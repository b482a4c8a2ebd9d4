-- The theorem of the crate.
pub mod NoSeven
