-- The refusals from 8 on, by what the code finds.
use Rattle.std.proofs.Common.{refl}
use Rattle.refusals.specs.Refusals.{number}
use Rattle.judge_strain.proofs.TestLaws.{late_8, late_last}
use Rattle.judge_strain.proofs.late.Goals as goal

pub returns-then-not-stand : goal.returns-then-not-stand
unfolding number
returns-then-not-stand c = late_8 c.args.job _ _ _ _ _ _ _ _ _ c.stand.ensures c.if-not-stand.true

pub returns-then-not-readings_fit : goal.returns-then-not-readings_fit
unfolding number
returns-then-not-readings_fit c =
    late_last c.args.job _ _ _ _ _ _ _ _ _ c.stand.ensures c.if-not-stand.false _ c.readings_fit.ensures 12 (rw c.if-not-readings_fit.true refl)

pub returns : goal.returns
returns c = late_last c.args.job _ _ _ _ _ _ _ _ _ c.stand.ensures c.if-not-stand.false _ c.readings_fit.ensures 0 (rw c.if-not-readings_fit.false refl)
