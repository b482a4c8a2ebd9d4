-- What the two calls leave is two finds, one after the other, and the laws say what each store makes of it.
use Rattle.std.proofs.Common.{arith}
use borrow.Author.Tests.{lt-ltb, le-ltb}
use Rattle.union_find.proofs.LinkLaws.{united_past, both_found, left_below, right_below, hung_left, hung_right, one_already}
use Rattle.union_find.proofs.unite.Goals as goal
use Rattle.union_find.proofs.unite.Goals.{then-a-links-via-then-a-links, then-a-links-via-else-a-links+then-b-links}

pub returns-then-a-links : goal.returns-then-a-links
returns-then-a-links c =
    elim c.then-a-links.branch [
      | then-a-links-via-then-a-links w ↦ united_past _ _ _ (rw (le-ltb _ _ w.if-a-links.true))
      | then-a-links-via-else-a-links+then-b-links w ↦ united_past _ _ _ (rw (lt-ltb _ _ w.if-a-links.false, le-ltb _ _ w.if-b-links.true))
    ]

pub bounds-links-q : goal.bounds-links-q
bounds-links-q c = right_below (both_found c.if-a-links.false c.if-b-links.false c.find_halving-p.ensures c.find_halving-q.ensures)

pub bounds-links-p : goal.bounds-links-p
bounds-links-p c = left_below (both_found c.if-a-links.false c.if-b-links.false c.find_halving-p.ensures c.find_halving-q.ensures)

pub returns-then-p-q : goal.returns-then-p-q
returns-then-p-q c = hung_right (both_found c.if-a-links.false c.if-b-links.false c.find_halving-p.ensures c.find_halving-q.ensures) c.if-p-q.true

pub returns-then-q-p : goal.returns-then-q-p
returns-then-q-p c = hung_left (both_found c.if-a-links.false c.if-b-links.false c.find_halving-p.ensures c.find_halving-q.ensures) c.if-q-p.true

pub returns-else-q-p : goal.returns-else-q-p
returns-else-q-p c = one_already (both_found c.if-a-links.false c.if-b-links.false c.find_halving-p.ensures c.find_halving-q.ensures) (omega arith)
