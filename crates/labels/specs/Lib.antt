-- The definitions of the crate: the relation to believe, the computation, the components of a map, and the number of cells of each order.
pub mod Numbering
pub mod Number
pub mod Components
pub mod OrderCounts
pub mod Outside
