-- What is listed, and what a refusal leaves.
use Rattle.reading_blocks.specs.Marks.{lists_of}
use Rattle.reading_blocks.proofs.RequestLaws.{request_refused, request_ready, request_done}
use Rattle.reading_blocks.proofs.request_blocks.Goals as goal

pub returns-in_err-refuse : goal.returns-in_err-refuse
returns-in_err-refuse c = request_refused c.args.job c.args.cuts.now (lists_of c.args.cells.now) _ _ c.in_err-refuse.ensures c.from_residual.result c.from_residual.ensures

pub list_needed-requires : goal.list_needed-requires
list_needed-requires c = request_ready c.args.job c.args.cuts.now (lists_of c.args.cells.now) _ c.in_ok-refuse.ensures

pub returns : goal.returns
returns c = request_done c.args.job c.args.cuts.now (lists_of c.args.cells.now) _ c.in_ok-refuse.ensures _ _ c.list_needed.ensures
