-- The tests in their order, by what each of them tells.
use Rattle.std.proofs.Common.{not, refl, sym, ap, ◌∙◌}
use Rattle.cells.specs.Extents.{off_size}
use Rattle.refusals.specs.Refusals.{number}
use Rattle.job.proofs.JobLaws.{same_derived}
use Rattle.job.specs.declared.Stage.{Stage}
use Rattle.reading_row.specs.Inner.{refusal_of}
use Rattle.reading_row.proofs.RowLaws.{refusal_last}
use Rattle.reading_row.proofs.refuse.Goals as goal

pub returns-then-ne : goal.returns-then-ne
unfolding refusal_of number
returns-then-ne c =
    rw (sym (c.off_size.ensures ∙ ap (off_size 1024) c.extents.ensures) ∙ c.if-off_size.false, sym (c.ne.ensures ∙ ap not (same_derived c.args.job.stage Stage.Closed)) ∙ c.if-ne.true) refl

pub returns-then-not-tallies_fit : goal.returns-then-not-tallies_fit
unfolding number
returns-then-not-tallies_fit c =
    refusal_last _ _ _ _ _ c.extents.ensures _ c.off_size.ensures c.if-off_size.false _ c.ne.ensures c.if-ne.false _ c.numbered.ensures _ c.has_number.ensures c.if-not-has_number.false
    _ c.lent_fits.ensures c.if-not-lent_fits.false _ c.tallies_fit.ensures 8 (rw c.if-not-tallies_fit.true refl)

pub returns : goal.returns
returns c =
    refusal_last _ _ _ _ _ c.extents.ensures _ c.off_size.ensures c.if-off_size.false _ c.ne.ensures c.if-ne.false _ c.numbered.ensures _ c.has_number.ensures c.if-not-has_number.false
    _ c.lent_fits.ensures c.if-not-lent_fits.false _ c.tallies_fit.ensures 0 (rw c.if-not-tallies_fit.false refl)
