-- The classes before x stand in the table.
use Rattle.std.proofs.Common.{arith}
use Rattle.lists.proofs.Overlay.{written_read}
use Rattle.union_find.specs.Links.{root}
use Rattle.ranking.proofs.store_classes.Goals as goal

pub class_of-requires-clause-by_index : goal.class_of-requires-clause-by_index
class_of-requires-clause-by_index c = written_read _ (root c.args.links.now) _ _ c.loop-x.invariant (omega arith)
