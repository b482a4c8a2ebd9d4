-- The definitions that the contracts cite: the readings that a block adds to the totals.
pub mod BlockReadings
