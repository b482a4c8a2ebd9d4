-- Cells of one component, joined at the cells where they meet.
-- Assumes nothing.
use Rattle.std.specs.Prelude.{◌≡◌, cond, ◌&&◌, List, [], ◌∷◌, ◌++◌, ℕ, length}
use Rattle.closure.specs.Joined.{Edge, edge}
use Rattle.cells.specs.declared.Triple.{Triple}
use Rattle.cells.specs.Extents.{Sized}
use Rattle.cells.specs.Grid.{cells}
use Rattle.cells.specs.Row.{occupied, same_row}

-- A map and links for the cells of a block.
pub record Trays (e : Triple) (map links : List ℕ) : Type 0 where
  pub sized : Sized 64 e
  pub whole : length map ≡ cells e
  pub room : length links ≡ cells e

-- The edges from p, whose row r is, to those of the cells qs whose rows rs equal it.
unfoldable pub alike_to : ℕ → List ℕ → List ℕ → List (List ℕ) → List Edge
alike_to p r [] rs = []
alike_to p r (q ∷ qs) [] = []
alike_to p r (q ∷ qs) (s ∷ rs) = cond (occupied r && same_row r s) (edge p q ∷ alike_to p r qs rs) (alike_to p r qs rs)

-- The edges between cells ps of equal rows rs.
unfoldable pub alike_pairs : List ℕ → List (List ℕ) → List Edge
alike_pairs [] rs = []
alike_pairs (p ∷ ps) [] = []
alike_pairs (p ∷ ps) (r ∷ rs) = alike_to p r ps rs ++ alike_pairs ps rs
