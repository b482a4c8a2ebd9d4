-- Where the cells of a block stand in the volume.
-- Assumes nothing.
use mathlib.Core.Path.{◌≡◌, subst}
use Prim.Native.Nat.{ℕ, ◌+◌, ◌*◌, ◌/◌, ◌%◌, ◌<◌}
use native.Mathlib.Omega.{arith}
use Rattle.cells.specs.Box.{triple, coord, index, place}
use Rattle.cells.specs.declared.Axis.TheVariants.{X, Y, Z}
use Rattle.cells.specs.declared.Triple.{Triple}
use Rattle.cells.specs.Grid.{sides, cells}
use Rattle.cells.proofs.BoxLaws.{Inside, index_inside}
use Rattle.cells.proofs.ExtentLaws.{cells_high}
use Rattle.cells.proofs.GridLaws.{inside}
use Rattle.lines.specs.Lines.{line_count}
use Rattle.lines.proofs.LineLaws.{line_place, line_inside}
use Rattle.blocks.specs.Blocks.{size_of, shift_in, embed_in}
use Rattle.blocks.specs.declared.Block.{Block}
use Rattle.pass_enrol.specs.EnrolledRows.{Lies, position_in}

module _ {v : Triple} {r : Block} (L : Lies v r) where
  pub shift_in_lem : (c : Triple) → Inside (sides (size_of r)) c → Inside (sides v) (shift_in r c)
  unfolding shift_in sides
  shift_in_lem c i X = omega (arith, i X, L.ends X)
  shift_in_lem c i Y = omega (arith, i Y, L.ends Y)
  shift_in_lem c i Z = omega (arith, i Z, L.ends Z)

  pub position_inside : (p : ℕ) → p < cells (size_of r) → position_in v r p < cells v
  unfolding position_in embed_in cells
  position_inside p h = index_inside (sides v) (shift_in r (place (sides (size_of r)) p)) (shift_in_lem (place (sides (size_of r)) p) (inside (size_of r) p h))

  pub position_high : (p : ℕ) → p < cells (size_of r) → position_in v r p < 8589934592
  position_high p h = omega (arith, position_inside p h, cells_high L.whole)

-- The cell at x of line l stands x further than the first one of the line.
pub position_line : (v : Triple) (r : Block) (l x : ℕ) → x < (sides (size_of r)).x
    → embed_in v r (triple 0 (l % (sides (size_of r)).y) (l / (sides (size_of r)).y)) + x ≡ position_in v r (l * (sides (size_of r)).x + x)
unfolding position_in embed_in shift_in index
position_line v r l x h = let e = size_of r in rw (line_place e l x h X, line_place e l x h Y, line_place e l x h Z) (omega arith)

-- The first place of a line lies in the grid.
pub line_in : (e : Triple) (l : ℕ) → 0 < (sides e).x → l < line_count e → Inside (sides e) (triple 0 (l % (sides e).y) (l / (sides e).y))
line_in e l h k a = subst (λ (n : ℕ). n < coord (sides e) a) (line_place e l 0 h a) (inside e (l * (sides e).x + 0) (line_inside e l 0 h k) a)
