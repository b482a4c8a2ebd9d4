-- The laws that the proofs cite.
pub mod Places
pub mod FirstLaws
pub mod HeadLaws
pub mod LeaderLists
pub mod NumberLaws
pub mod KindLaws
