-- The definitions that the contracts cite: the tables of totals and readings as they come.
pub mod Totals
