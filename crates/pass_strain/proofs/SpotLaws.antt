-- Where the lines of a block lie.
-- Assumes nothing.
use mathlib.Core.Path.{◌≡◌, sym, ◌∙◌}
use Prim.Native.Nat.{ℕ, ◌+◌, ◌-◌, ◌*◌, ◌/◌, ◌%◌, ◌≤◌, ◌<◌}
use native.Mathlib.Nat.{mul-le-mul_right, mul_comm}
use native.Mathlib.Omega.{arith}
use lib.Arith.{digits_mod, digits_div}
use Rattle.cells.specs.declared.Triple.{Triple}
use Rattle.cells.specs.Extents.{Sized}
use Rattle.cells.specs.Grid.{sides}
use Rattle.lines.specs.Lines.{line_count, line_y, line_z, first_stride, LineAt}
use Rattle.pass_strain.specs.BlockReadings.{Lies}
use Rattle.pass_strain.specs.declared.FaceLine.{FaceLine}
use Rattle.pass_strain.proofs.SumLaws.{bounds}

-- Line y of layer z, where h lines are in a layer.
module _ (h y z : ℕ) (i : y < h) where
  pub line_below : y ≡ (z * h + y) % h
  line_below = sym (digits_mod z i)

  pub layer_below : z ≡ (z * h + y) / h
  layer_below = sym (digits_div z i)

-- .. of so many layers.
module _ (e : Triple) (z : ℕ) where
  pub line_there : (y : ℕ) → z < 2 * e.z - 1 → y < 2 * e.y - 1 → z * (2 * e.y - 1) + y < line_count e
  unfolding line_count sides
  line_there y h i =
      let m : (z + 1) * (2 * e.y - 1) ≤ (2 * e.z - 1) * (2 * e.y - 1) = mul-le-mul_right (2 * e.y - 1) (omega arith) in
      omega (arith, m, mul_comm (2 * e.y - 1) (2 * e.z - 1))

  pub lines_there : 2 * e.z - 1 ≤ z → line_count e ≤ z * (2 * e.y - 1)
  unfolding line_count sides
  lines_there h =
      let m : (2 * e.z - 1) * (2 * e.y - 1) ≤ z * (2 * e.y - 1) = mul-le-mul_right (2 * e.y - 1) h in
      omega (arith, m, mul_comm (2 * e.y - 1) (2 * e.z - 1))

-- What a line is told by, by where it lies.
module _ (e : Triple) (l y z : ℕ) (p : y ≡ l % (sides e).y) (q : z ≡ l / (sides e).y) where
  pub odd_there : y % 2 + z % 2 ≡ line_y e l + line_z e l
  unfolding line_y line_z
  odd_there = rw (p, q)

  pub lies : (r : FaceLine) → LineAt e 1 l r.line → r.y ≡ y → r.z ≡ z
      → r.stride ≡ first_stride r.line.start (y % 2) (sides e).x ((sides e).x * (sides e).y) → r.apart ≡ first_stride r.line.start (y % 2) e.x (e.x * e.y)
      → r.first ≡ y / 2 * e.x + z / 2 * (e.x * e.y) → Lies e l r
  unfolding line_y
  lies r L a b d f h =
      record {
        line = L;
        y = a ∙ p;
        z = b ∙ q;
        stride = rw (← p) d;
        apart = rw (← p) f;
        first = rw (← p, ← q) h;
      }

  pub spot_bounds : Sized 64 e → l < line_count e → (y / 2 * e.x ≤ 4096) × (z / 2 * (e.x * e.y) ≤ 262144)
  unfolding sides
  spot_bounds S h = let b = bounds e l S h in (rw p b.y, rw q b.z)
