use Rattle.std.proofs.Common.{sym, ◌∙◌}
use Rattle.refusals.proofs.RefusalLaws.{err_number}
use Rattle.refusals.specs.Refusals.{number}
use Rattle.cells.specs.Box.{triple}
use Rattle.judge.specs.Judge.{reached_of}
use Rattle.judge.proofs.JudgeLaws.{refused_first, passed_first}
use Rattle.judge.proofs.reached.Goals as goal

pub returns-in_err-opened : goal.returns-in_err-opened
unfolding reached_of
returns-in_err-opened c = err_number _ _ c.from_residual.ensures ∙ refused_first _ _ _ c.in_err-opened.ensures

pub returns-then-not-has_block : goal.returns-then-not-has_block
unfolding reached_of number
returns-then-not-has_block c = passed_first _ _ _ c.in_ok-opened.ensures (rw (sym (c.has_block.ensures (triple c.args.job.nx c.args.job.ny c.args.job.nz)) ∙ c.if-not-has_block.true))

pub returns-then-is_ticked : goal.returns-then-is_ticked
unfolding reached_of number
returns-then-is_ticked c = passed_first _ _ _ c.in_ok-opened.ensures (rw (sym (c.has_block.ensures (triple c.args.job.nx c.args.job.ny c.args.job.nz)) ∙ c.if-not-has_block.false, sym c.is_ticked.ensures ∙ c.if-is_ticked.true))

pub returns : goal.returns
unfolding reached_of
returns c = passed_first _ _ _ c.in_ok-opened.ensures (rw (sym (c.has_block.ensures (triple c.args.job.nx c.args.job.ny c.args.job.nz)) ∙ c.if-not-has_block.false, sym c.is_ticked.ensures ∙ c.if-is_ticked.false))
