-- The largest block: "the most faces, curves and points that a block of given extents can have". The three numbers are
-- `cells_of_order` (labels/specs/OrderCounts).
-- Assumes nothing.
use Rattle.std.specs.Prelude.{◌≡◌, cond, List, [], ◌∷◌, ℕ, suc, ◌≤◌, ◌<◌, eqb, get_or}
use Rattle.lists.specs.Lists.{tabulate}
use Rattle.refusals.specs.declared.Refusal.{Refusal}
use Rattle.refusals.specs.Refusals.{Case, ◌if◌, given_refusal}
use Rattle.cells.specs.Box.{volume}
use Rattle.cells.specs.declared.Triple.{Triple}
use Rattle.cells.specs.Extents.{off_size}
use Rattle.labels.specs.Number.{labels}
use Rattle.labels.specs.Components.{largest}
use Rattle.labels.specs.OrderCounts.{cells_of_order}
use Rattle.counts.specs.Counts.{Counted}

-- "All codes different": no two voxels of the block have one code. One of the codes may be 0.
pub record DifferentCodes (e : Triple) (codes : List ℕ) : Type 0 where
  pub apart : (v w : ℕ) → v < volume e → w < volume e → get_or codes v 0 ≡ get_or codes w 0 → v ≡ w

-- n is the most components of order j that a block of e voxels can have: "no block of that size exceeds" it, and "the block with all codes different
-- reaches" it.
pub record IsMost (e : Triple) (j n : ℕ) : Type 0 where
  pub bound : (codes : List ℕ) → largest e (labels e codes) j ≤ n
  pub reached : (codes : List ℕ) → DifferentCodes e codes → largest e (labels e codes) j ≡ n

-- The codes 1, 2, 3, .., a block with all codes different.
unfoldable pub counted_codes : Triple → List ℕ
counted_codes e = tabulate (volume e) suc

-- The cases of `most_components`.
unfoldable pub declines : Triple → List Case
declines e = Refusal.OffSize if off_size 64 e ∷ []

-- The refusal of a call, 0 for none.
unfoldable pub refusal_of : Triple → ℕ
refusal_of e = given_refusal (declines e)

-- Accepted: the numbers of face, curve and point cells.
unfoldable pub accepted : Triple → Counted
accepted e = record { refusal = 0; faces = cells_of_order e 2; curves = cells_of_order e 1; points = cells_of_order e 0 }

-- Refused: "a refusal returns its number, .. every other field 0 or empty".
unfoldable pub refused : ℕ → Counted
refused n = record { refusal = n; faces = 0; curves = 0; points = 0 }

-- The answer to a call with these extents.
unfoldable pub most_components : Triple → Counted
most_components e = cond (eqb (refusal_of e) 0) (accepted e) (refused (refusal_of e))
