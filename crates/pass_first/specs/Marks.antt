-- The cells of one order from a position on: their largest number, and the first of each number. Assumes nothing.
use Rattle.std.specs.Prelude.{◌≡◌, List, ℕ, suc, ◌-◌, ◌≤◌, ◌<◌, eqb, length, get_or}
use Rattle.lists.specs.Lists.{consecutive, keep}
use Rattle.cells.specs.declared.Triple.{Triple}
use Rattle.cells.specs.Extents.{Sized}
use Rattle.cells.specs.Grid.{cells, order}
use Rattle.pass_first.specs.declared.Kind.{Kind}

-- The order of the cells of a kind.
abbrev pub cell_order : Kind → ℕ
cell_order Kind.Point = 0
cell_order Kind.Curve = 1
cell_order Kind.Face = 2

-- A map of its block's length, and an order of components.
pub record Sought (e : Triple) (m : List ℕ) (j : ℕ) : Type 0 where
  pub sized : Sized 8 e
  pub whole : length m ≡ cells e
  pub below : j ≤ 2

-- The cells of order j from position p on.
unfoldable pub cells_from : Triple → ℕ → ℕ → List ℕ
cells_from e j p = keep (λ q. eqb (order e q) j) (consecutive p (cells e - p))

-- The first cell with number n of order j from position p on, 0 where there is none.
unfoldable pub first_from : Triple → List ℕ → ℕ → ℕ → ℕ → ℕ
first_from e m j p n = get_or (keep (λ q. eqb (get_or m q 0) n) (cells_from e j p)) 0 0

-- A tray holds the first cell with number n, from position p on, at place n - 1.
pub record Marks (e : Triple) (m : List ℕ) (j p : ℕ) (t : List ℕ) : Type 0 where
  pub room : length t ≡ cells e
  pub has : (k : ℕ) → k < cells e → get_or t k 0 ≡ first_from e m j p (suc k)
