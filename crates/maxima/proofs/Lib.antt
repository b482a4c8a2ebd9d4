-- The laws of the definitions in specs/.
pub mod Sums
pub mod UpperLaws
pub mod Apart
pub mod MaximaLaws
pub mod LabelledMost
pub mod Examples
