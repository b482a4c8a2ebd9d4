-- Links that span the components of one order.
-- Assumes nothing.
use Rattle.std.specs.Prelude.{◌≡◌, true, List, ℕ, length}
use Rattle.closure.specs.Joined.{rep}
use Rattle.cells.specs.declared.Triple.{Triple}
use Rattle.cells.specs.Grid.{cells}
use Rattle.labels.specs.Number.{edges}
use Rattle.union_find.specs.Links.{root, sound_at}

-- Links that join the cells of each component of order j, and no others; each is sound.
pub record Spanning (e : Triple) (m : List ℕ) (j : ℕ) (links : List ℕ) : Type 0 where
  pub size : length links ≡ cells e
  pub roots : (y : ℕ) → root links y ≡ rep (edges e m j) y
  pub sound : (y : ℕ) → sound_at links y ≡ true
