-- The definitions give what the second implementation lists.
pub mod SampleLaws
