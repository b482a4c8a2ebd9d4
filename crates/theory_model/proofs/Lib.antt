-- The laws of the model.
pub mod Merging
pub mod Edges
pub mod Numbers
pub mod Steps
pub mod Runs
pub mod Examples
