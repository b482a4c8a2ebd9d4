-- The definitions of the crate: what the scanner does with each byte, and what comes of a whole text.
pub mod Scanning
pub mod Asked
