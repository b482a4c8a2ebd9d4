-- What is read, and what a refusal leaves.
use Rattle.reading_row.proofs.RowLaws.{ready, reading_refused, reading_accepted}
use Rattle.reading_row.proofs.row.Goals as goal

pub returns-in_err-refuse : goal.returns-in_err-refuse
returns-in_err-refuse c = reading_refused c.args.job c.args.kind _ _ _ _ _ c.in_err-refuse.ensures c.from_residual.result c.from_residual.ensures

pub part-requires : goal.part-requires
part-requires c = ready c.args.job c.args.kind _ _ _ _ c.in_ok-refuse.ensures

pub returns : goal.returns
returns c = reading_accepted c.args.job c.args.kind _ _ _ _ c.in_ok-refuse.ensures c.part.result c.part.ensures
