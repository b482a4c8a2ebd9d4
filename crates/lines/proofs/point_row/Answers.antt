-- The numbers are those one stride down and up.
use mathlib.Core.List.Memᴰ
use Rattle.std.proofs.Common.{[], ◌∷◌, ◌∙◌, sym, rules}
use Rattle.lines.specs.Lines.{around}
use Rattle.lines.proofs.LineLaws.{below_read, above_read, row_odds}
use Rattle.lines.proofs.point_row.Goals as goal

pub below-requires : goal.below-requires
below-requires c = search (rules, below_read, Memᴰ.head)

pub above-requires : goal.above-requires
above-requires c = search (above_read, Memᴰ.head)

pub below-requires-2 : goal.below-requires-2
below-requires-2 c = search (rules, below_read, Memᴰ.head, Memᴰ.tail)

pub above-requires-2 : goal.above-requires-2
above-requires-2 c = search (above_read, Memᴰ.head, Memᴰ.tail)

pub below-requires-3 : goal.below-requires-3
below-requires-3 c = search (rules, below_read, Memᴰ.head, Memᴰ.tail)

pub above-requires-3 : goal.above-requires-3
above-requires-3 c = search (above_read, Memᴰ.head, Memᴰ.tail)

pub returns : goal.returns
unfolding around
returns c =
    let a = c.args in
    c.row_of.ensures
    ∙ rw (c.below.ensures, c.above.ensures, c.below-2.ensures, c.above-2.ensures, c.below-3.ensures, c.above-3.ensures)
    (sym (row_odds a.e a.map.now a.p (a.a ∷ a.b ∷ a.c ∷ []) c.requires.2))
