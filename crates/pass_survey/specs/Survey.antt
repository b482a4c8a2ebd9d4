-- What the inner functions of a survey answer, line by line.
-- Assumes nothing.
use mathlib.Core.List.{List, map, foldr}
use Rattle.std.specs.Prelude.{ℕ, ◌*◌, max, eqb, get_or}
use Rattle.lists.specs.Lists.{consecutive, keep}
use Rattle.cells.specs.declared.Triple.{Triple}
use Rattle.cells.specs.Grid.{sides, order}
use Rattle.counts.specs.declared.Counts.{Counts}

-- The cells of order j on line l.
unfoldable pub on_line : Triple → ℕ → ℕ → List ℕ
on_line e j l = keep (λ p. eqb (order e p) j) (consecutive (l * (sides e).x) (sides e).x)

-- The largest number of the cells of a list.
unfoldable pub most : List ℕ → List ℕ → ℕ
most m ps = foldr max 0 (map (λ p. get_or m p 0) ps)

-- A survey with the cells of line l taken in.
unfoldable pub line_added : Triple → List ℕ → ℕ → Counts → Counts
line_added e m l s =
    record {
      faces = max s.faces (most m (on_line e 2 l));
      curves = max s.curves (most m (on_line e 1 l));
      points = max s.points (most m (on_line e 0 l));
    }
