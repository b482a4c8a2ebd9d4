-- A closed job has its points numbered, any other job stays.
use Rattle.std.proofs.Common.{sym, ◌∙◌}
use borrow.Author.Tests.{not-true, not-false}
use Rattle.job.specs.declared.Stage.{Stage}
use Rattle.job.proofs.JobLaws.{same_derived}
use Rattle.step_point.proofs.DoneLaws.{close_before, close_last}
use Rattle.step_point.proofs.close.Goals as goal

pub returns-then-ne : goal.returns-then-ne
returns-then-ne c = close_before c.args.job _ _ _ _ _ _ (sym (same_derived c.args.job.stage Stage.Closed) ∙ not-true _ (sym c.ne.ensures ∙ c.if-ne.true))

pub returns : goal.returns
returns c =
    close_last c.args.job _ _ _ _ _ _ (sym (same_derived c.args.job.stage Stage.Closed) ∙ not-false _ (sym c.ne.ensures ∙ c.if-ne.false)) _ _ _ _ c.number_copied-total.ensures
