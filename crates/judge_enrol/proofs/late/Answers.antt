use Rattle.std.proofs.Common.{sym, ◌∙◌}
use Rattle.refusals.specs.Refusals.{number}
use Rattle.judge_enrol.specs.Tests.{late_of}
use Rattle.judge_enrol.proofs.TestLaws.{late_points}
use Rattle.judge_enrol.proofs.late.Goals as goal

pub returns-then-not-tallies_fit : goal.returns-then-not-tallies_fit
unfolding late_of number
returns-then-not-tallies_fit c cx cy cz = rw (sym (c.tallies_fit.ensures cx cy cz) ∙ c.if-not-tallies_fit.true)

pub full-requires : goal.full-requires
full-requires c = late_points c.args.job _ c.tallies_fit.ensures c.if-not-tallies_fit.false

pub returns-then-full : goal.returns-then-full
unfolding late_of number
returns-then-full c cx cy cz = rw (sym (c.tallies_fit.ensures cx cy cz) ∙ c.if-not-tallies_fit.false, sym c.full.ensures ∙ c.if-full.true)

pub returns : goal.returns
unfolding late_of
returns c cx cy cz = rw (sym (c.tallies_fit.ensures cx cy cz) ∙ c.if-not-tallies_fit.false, sym c.full.ensures ∙ c.if-full.false)
