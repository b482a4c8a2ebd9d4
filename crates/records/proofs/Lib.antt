-- The laws of the definitions in specs/.
pub mod FieldLaws
pub mod MapLaws
pub mod ReadLaws
pub mod DamageLaws
pub mod RoundTrip
pub mod LaidLaws
pub mod BitLaws
