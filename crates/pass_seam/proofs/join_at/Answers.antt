-- The edge of the cell is joined, where it has one.
use Rattle.pass_seam.proofs.WalkLaws.{joined_off, joined_first, joined_second, joined_there}
use Rattle.pass_seam.proofs.join_at.Goals as goal
use Rattle.pass_seam.proofs.join_at.Goals.{else-has_place-via-then-has_place+else-has_place-2, else-has_place-via-else-has_place}

pub returns-then-u-v : goal.returns-then-u-v
returns-then-u-v c = joined_off _ _ _ _ _ _ _ _ _ _ c.args.links.now c.if-u-v.true

pub returns-then-has_place-2 : goal.returns-then-has_place-2
returns-then-has_place-2 c =
    joined_there _ _ _ _ _ _ _ _ _ _ c.args.links.now c.unite.new.links c.number_at-a.result c.number_at-b.result c.requires c.if-u-v.false c.number_at-a.ensures
    c.number_at-b.ensures (cc) (cc) c.unite.ensures

pub returns-else-has_place : goal.returns-else-has_place
returns-else-has_place c =
    elim c.else-has_place.branch [
      | else-has_place-via-then-has_place+else-has_place-2 w ↦ joined_second _ _ _ _ _ _ _ _ _ _ c.args.links.now c.number_at-a.result c.number_at-b.result c.number_at-a.ensures
          c.number_at-b.ensures (cc) (cc)
      | else-has_place-via-else-has_place w ↦ joined_first _ _ _ _ _ _ _ _ _ _ c.args.links.now c.number_at-a.result c.number_at-a.ensures (cc)
    ]
