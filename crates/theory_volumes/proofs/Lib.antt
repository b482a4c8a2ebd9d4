-- The definitions give what the table lists.
pub mod VolumeLaws
