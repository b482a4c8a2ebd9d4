-- The definitions that the contracts cite: 1,024ths and readings.
pub mod Units
pub mod Readings
