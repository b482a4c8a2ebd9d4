-- The theorems.
pub mod RoundTrip
