-- The definitions of the crate, in reading order.
pub mod Book
pub mod Statement
