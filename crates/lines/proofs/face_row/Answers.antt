-- The numbers are those one stride down and up.
use mathlib.Core.List.Memᴰ
use Rattle.std.proofs.Common.{[], ◌∷◌, ◌∙◌, sym, rules}
use Rattle.lines.specs.Lines.{around}
use Rattle.lines.proofs.LineLaws.{below_read, above_read, row_odds}
use Rattle.lines.proofs.face_row.Goals as goal

pub below-requires : goal.below-requires
below-requires c = search (rules, below_read, Memᴰ.head)

pub above-requires : goal.above-requires
above-requires c = search (above_read, Memᴰ.head)

pub returns : goal.returns
unfolding around
returns c =
    let a = c.args in
    c.row_of.ensures ∙ rw (c.below.ensures, c.above.ensures) (sym (row_odds a.e a.map.now a.p (a.a ∷ []) c.requires.2))
