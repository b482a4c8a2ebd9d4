-- `ranking::gather` meets its contract.
use Rattle.ranking.proofs.FirstLaws.{root_classes}
use Rattle.ranking.proofs.KindLaws.{found_of}
use Rattle.ranking.proofs.gather.Goals as goal

pub invariant_of-classed : goal.invariant_of-classed
invariant_of-classed c = record { named = root_classes _ _ _ _ c.requires.1 c.store_classes.ensures }

pub returns : goal.returns
returns c = found_of _ _ _ _ _ _ _ _ _ c.requires.1 c.requires.2 c.store_classes.ensures c.find_leaders.ensures.leaders c.find_leaders.ensures.leaders_len_unchanged c.list_leaders.ensures
