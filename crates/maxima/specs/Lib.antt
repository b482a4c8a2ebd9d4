-- The definitions of the crate: codes that all differ, the most components, and what `most_components` answers.
pub mod Maxima
