-- The laws that the proofs cite.
pub mod ScanLaws
pub mod SpanningLaws
