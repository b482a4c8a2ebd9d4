-- The laws of the definitions in specs/: sums are exact (Exact), the tests tell multiples (Whole), a list of readings adds up in any order (Sums), and no sum is minus zero
-- (Signs).
pub mod Exact
pub mod Whole
pub mod Sums
pub mod Signs
