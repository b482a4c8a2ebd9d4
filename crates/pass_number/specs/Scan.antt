-- The cells of one order numbered one after the other, in the order of their positions.
-- Assumes nothing.
use Rattle.std.specs.Prelude.{cond, List, [], ◌∷◌, ℕ, ◌+◌, eqb, get_or, set}
use Rattle.cells.specs.declared.Triple.{Triple}
use Rattle.cells.specs.Row.{active}
use Rattle.union_find.specs.Links.{parent}

-- The map and the links so far, and how many components are numbered.
pub record Scan : Type 0 where
  pub numbers : List ℕ
  pub links : List ℕ
  pub total : ℕ

abbrev pub scanned : List ℕ → List ℕ → ℕ → Scan
scanned m ls t = record { numbers = m; links = ls; total = t }

-- What cell p makes of it: an inactive cell gets 0, a root of the links the next number, and any other the number of its parent, and its link is cleared.
unfoldable pub scan_at : Triple → ℕ → Scan → Scan
scan_at e p s =
    cond (active e s.numbers p)
    (cond (eqb (parent s.links p) p) (scanned (set s.numbers p (s.total + 1)) s.links (s.total + 1)) (scanned (set s.numbers p (get_or s.numbers (parent s.links p) 0)) (set s.links p 0) s.total))
    (scanned (set s.numbers p 0) s.links s.total)

-- What the cells of a list make of it.
unfoldable pub scan_cells : Triple → List ℕ → Scan → Scan
scan_cells e [] s = s
scan_cells e (p ∷ ps) s = scan_cells e ps (scan_at e p s)
