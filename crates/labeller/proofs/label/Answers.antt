-- Refused, the trays are as they were; accepted, the block is labelled.
use Rattle.std.proofs.Common.{refl, sym, arith}
use Rattle.std.proofs.lemmas.Result.{err_from_is_err_and}
use Rattle.refusals.specs.Refusals.{number}
use Rattle.refusals.proofs.RefusalLaws.{number_positive}
use Rattle.labeller.proofs.LabellingLaws.{ready_of, label_refused, label_accepted}
use Rattle.labeller.proofs.label.Goals as goal

pub returns-in_err-judge : goal.returns-in_err-judge
returns-in_err-judge c =
    let p = err_from_is_err_and c.from_residual.result c.from_residual.ensures.1 in
    rw (p.1, p.2) (label_refused _ _ _ _ (number c.in_err-judge.field-0.0) c.in_err-judge.ensures (λ z. absurd (omega (arith, number_positive c.in_err-judge.field-0.0))))

pub label_block-requires : goal.label_block-requires
label_block-requires c = ready_of _ _ _ _ (sym c.in_ok-judge.ensures)

pub returns : goal.returns
returns c = label_accepted _ _ _ _ _ c.in_ok-judge.ensures refl _ _ _ c.label_block.ensures
