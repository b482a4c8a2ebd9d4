-- The definitions of the crate, in reading order: what is printed, the outcome of a call, where each byte stands; and those that only inner functions cite.
pub mod Printed
pub mod Printing
pub mod Places
pub mod Inner
