-- A good cut has cut lists, and the first intervals on the axes are those of the lowest block.
use Rattle.lowest.proofs.PlaceLaws.{number_lowest}
use Rattle.lowest.proofs.lowest_block.Goals as goal

pub returns : goal.returns
returns c e good v =
    number_lowest c.args.cuts.now c.args.c _ _ _ _ _ c.intervals-w.ensures c.intervals-h.ensures e good v c.interval_of-i.ensures.first c.interval_of-j.ensures.first c.interval_of-k.ensures.first
