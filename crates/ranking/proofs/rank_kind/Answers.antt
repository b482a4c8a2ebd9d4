-- What each pass leaves for the next.
use Rattle.std.proofs.Common.{arith}
use Rattle.lists.proofs.Overlay.{written_long}
use Rattle.ranking.proofs.FirstLaws.{root_classes}
use Rattle.ranking.proofs.KindLaws.{found_listed, different_of, ranked_of}
use Rattle.ranking.proofs.rank_kind.Goals as goal

pub arrange-requires-clause-listed : goal.arrange-requires-clause-listed
arrange-requires-clause-listed c = let s = c.requires in found_listed s.1 s.0 s.3 c.gather-h.ensures (omega arith)

pub invariant_of-classed : goal.invariant_of-classed
invariant_of-classed c =
    let s = c.requires in
    record { named = root_classes _ _ _ _ (omega (arith, written_long _ _ _ _ c.gather-h.ensures.classes, s.1)) c.arrange.ensures.classes }

pub place_leaders-requires-clause-apart : goal.place_leaders-requires-clause-apart
place_leaders-requires-clause-apart c = let s = c.requires in different_of s.1 s.0 s.3 c.gather-h.ensures c.arrange.ensures

pub renumber-requires : goal.renumber-requires
renumber-requires c =
    let s = c.requires in
    let G = c.gather-h.ensures in
    let A = c.arrange.ensures in
    (omega arith, root_classes _ _ _ _ (omega (arith, written_long _ _ _ _ G.classes, s.1)) A.classes)

pub returns-clause-any_kind : goal.returns-clause-any_kind
returns-clause-any_kind c = λ t κ K M.
    let s = c.requires in
    ranked_of s.1 s.0 s.3 c.gather-h.ensures c.arrange.ensures t κ K M c.place_leaders.ensures.placed c.place_leaders.ensures.leaders_after c.renumber.ensures
