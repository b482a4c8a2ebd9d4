-- What the contracts of the joining pass cite.
pub mod JoinTrays
pub mod Around
