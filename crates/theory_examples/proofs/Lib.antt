-- The two volumes, computed.
pub mod Images
pub mod Rings
pub mod Handle
