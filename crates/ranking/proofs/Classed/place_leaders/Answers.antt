-- The laws of the numbers of the classes.
use Rattle.std.proofs.Common.{arith, ◌∙◌}
use Rattle.lists.proofs.Overlay.{overlay_none, written_next}
use Rattle.ranking.proofs.NumberLaws.{placing_none, placing_next, listed_same}
use Rattle.ranking.proofs.Classed.place_leaders.Goals as goal

pub loop-i-init : goal.loop-i-init
loop-i-init c = (placing_none _ _ _, overlay_none _ _ _)

pub loop-i-preserved : goal.loop-i-preserved
loop-i-preserved c =
    let C = c.args.self.now.named in
    let D = c.requires.apart in
    let P = c.loop-i.invariant.0 in (
      placing_next C D c.loop-i-test.true P (omega arith),
      written_next _ _ _ _ _ c.loop-i.invariant.1 (c.from.ensures ∙ listed_same C D c.loop-i-test.true P),
    )
