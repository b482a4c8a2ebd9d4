-- The definitions that the contract of `label` cites.
pub mod Labelling
