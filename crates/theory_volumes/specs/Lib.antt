-- The table of volumes.
pub mod Volumes
