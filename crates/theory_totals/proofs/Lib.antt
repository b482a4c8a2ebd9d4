-- The laws of the totals, from one place of the tables over a closed job (SideReadings, ClosedLaws) to lists of calls (StrainStatement, TotalsRead, where
-- the promises of item 1 stand).
pub mod SlotLaws
pub mod Reordering
pub mod OwnCells
pub mod OrderLaws
pub mod SideLaws
pub mod SideCounts
pub mod GoodLaws
pub mod StandingLaws
pub mod SideReadings
pub mod ClosedLaws
pub mod Recorded
pub mod StrainSteps
pub mod StrainStatement
pub mod TotalsRead
pub mod CuttingFree
pub mod OutsideFree
pub mod ListedLaws
pub mod Examples
