-- The joins need what the judge has passed, and so does the numbering, which the last block's step brings.
use Rattle.std.proofs.Common.{arith, sym, ◌∙◌}
use borrow.Author.Tests.{not-true, not-false}
use Rattle.job.specs.declared.Stage.{Stage}
use Rattle.job.proofs.JobLaws.{same_derived}
use Rattle.step_cross.proofs.DoneLaws.{join_ready, tallies_are, faces_room, curves_room, done_before, done_last}
use Rattle.step_cross.proofs.accept.Goals as goal

pub join_curves-next-requires : goal.join_curves-next-requires
join_curves-next-requires c = (join_ready _ _ _ c.requires (omega (arith, c.well_formed)) (omega (arith, c.well_formed)), tallies_are _ _ _ c.requires)

pub returns-then-ne : goal.returns-then-ne
returns-then-ne c =
    done_before c.args.job c.args.cuts.now _ _ _ _ _ _ _ _ _ _ _ _ _ _ _ _ _ _ _ _ c.join_curves-next.ensures (sym (same_derived c.join_curves-next.result.stage Stage.Points) ∙ not-true _ (sym c.ne.ensures ∙ c.if-ne.true))

pub number_both-both-requires-clause-kind_room : goal.number_both-both-requires-clause-kind_room
number_both-both-requires-clause-kind_room c = faces_room _ _ _ c.requires

pub number_both-both-requires-clause-kind_room_2 : goal.number_both-both-requires-clause-kind_room_2
number_both-both-requires-clause-kind_room_2 c = curves_room _ _ _ c.requires

pub returns : goal.returns
returns c =
    done_last c.args.job c.args.cuts.now _ _ _ _ _ _ _ _ _ _ _ _ _ _ _ _ _ _ _ _ c.join_curves-next.ensures _ _ _ _ _ _ _ c.number_both-both.ensures (sym (same_derived c.join_curves-next.result.stage Stage.Points) ∙ not-false _ (sym c.ne.ensures ∙ c.if-ne.false))
