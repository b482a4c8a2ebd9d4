-- `ranking::arrange` meets its contract.
use Rattle.ranking.proofs.Places.{part_lent}
use Rattle.ranking.proofs.KindLaws.{ordered_of}
use Rattle.ranking.proofs.arrange.Goals as goal

pub sort-requires-clause-listed : goal.sort-requires-clause-listed
sort-requires-clause-listed c = rw (part_lent c.args.spare.now c.args.n c.args.h) c.requires.listed

pub returns : goal.returns
returns c =
    let o = c.requires.h_le_n in
    ordered_of _ _ _ _ _ _ c.sort.new.work _ _ o.0 o.1 o.2 c.sort.ensures c.sort.auto.work c.store_classes.ensures
