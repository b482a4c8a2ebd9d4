-- A turn joins the next cell with the later ones.
use Rattle.std.proofs.Common.{arith}
use lib.ListN.{drop_of_length-le}
use Rattle.union_find.proofs.LinkLaws.{left_all, left_fewer, left_none}
use Rattle.pass_join.specs.Around.{positions, rows_of}
use Rattle.pass_join.specs.JoinTrays.{alike_pairs}
use Rattle.pass_join.proofs.JoinLaws.{pairs_next, length-positions, length-rows_of}
use Rattle.pass_join.proofs.join_alike.Goals as goal

pub loop-i-init : goal.loop-i-init
loop-i-init c = left_all _ _

pub join_from-requires : goal.join_from-requires
join_from-requires c = (omega arith, rw c.loop-i.auto.links c.requires)

pub loop-i-preserved : goal.loop-i-preserved
loop-i-preserved c =
    let ns = c.args.cells.now in
    let l = c.loop-i in
    left_fewer _ (rw (pairs_next (positions ns) (rows_of ns) l.i (omega (arith, length-positions ns)) (omega (arith, length-rows_of ns))) at l.invariant) c.join_from.ensures

pub returns : goal.returns
unfolding alike_pairs
returns c =
    let ns = c.args.cells.now in
    left_none (rw (drop_of_length-le (positions ns) {i = c.loop-i.i} (omega (arith, length-positions ns))) at c.loop-i.invariant)
