-- The definitions of the crate: the book of readings and what holds of lists of calls (start at Statement). `Volume` holds what only the laws speak of.
pub mod Book
pub mod Statement
pub mod Volume
