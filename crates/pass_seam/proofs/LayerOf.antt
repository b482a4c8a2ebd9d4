-- The layers of a block by axis: where they begin and their steps.
-- Assumes nothing.
use mathlib.Core.Bool.{Bool, cond}
use mathlib.Core.Path.{◌≡◌}
use Prim.Native.Nat.{ℕ, ◌-◌, ◌*◌, ◌≤◌}
use native.Mathlib.Nat.{mul-le-mul}
use native.Mathlib.Omega.{arith}
use borrow.Author.Tests.{ne_eqb}
use Rattle.lists.proofs.Cases.{by_test}
use Rattle.cells.specs.Box.{index}
use Rattle.cells.specs.declared.Axis.TheVariants.{X, Y, Z}
use Rattle.cells.specs.declared.Triple.{Triple}
use Rattle.cells.specs.Extents.{Sized}
use Rattle.cells.specs.Grid.{sides}
use Rattle.layers.specs.Layers.{axis_of, last_at, first_across}
use Rattle.pass_seam.specs.Walks.{cell_of, LayerOf}

module _ (axis : ℕ) where
  axis_x : axis ≡ 1 → axis_of axis ≡ X
  unfolding axis_of
  axis_x e = rw e

  axis_y : axis ≡ 2 → axis_of axis ≡ Y
  unfolding axis_of
  axis_y e = rw e

  axis_z : ¬ (axis ≡ 1) → ¬ (axis ≡ 2) → axis_of axis ≡ Z
  unfolding axis_of
  axis_z h k = rw (ne_eqb axis 1 h, ne_eqb axis 2 k)

module _ (e : Triple) (axis : ℕ) (last : Bool) (s : ℕ) where
  pub layer_x : axis ≡ 1 → s ≡ cond last (2 * e.x - 1 - 1) 0
      → LayerOf e (axis_of axis) last (record { start = s; column = 2 * e.x - 1; row = (2 * e.x - 1) * (2 * e.y - 1) })
  unfolding sides cell_of last_at first_across index
  layer_x q p = record { is = λ u v. rw (axis_x axis q, p) (by_test last (λ t. rw t) (λ t. rw t)) }

  pub layer_y : axis ≡ 2 → s ≡ cond last ((2 * e.y - 1 - 1) * (2 * e.x - 1)) 0
      → LayerOf e (axis_of axis) last (record { start = s; column = 1; row = (2 * e.x - 1) * (2 * e.y - 1) })
  unfolding sides cell_of last_at first_across index
  layer_y q p = record { is = λ u v. rw (axis_y axis q, p) (by_test last (λ t. rw t (omega arith)) (λ t. rw t (omega arith))) }

  pub layer_z : ¬ (axis ≡ 1) → ¬ (axis ≡ 2) → s ≡ cond last ((2 * e.z - 1 - 1) * ((2 * e.x - 1) * (2 * e.y - 1))) 0
      → LayerOf e (axis_of axis) last (record { start = s; column = 1; row = 2 * e.x - 1 })
  unfolding sides cell_of last_at first_across index
  layer_z h k p = record { is = λ u v. rw (axis_z axis h k, p) (by_test last (λ t. rw t (omega arith)) (λ t. rw t (omega arith))) }

-- A side has at most 127 cells.
module _ (e : Triple) (z : Sized 64 e) where
  pub area_fits : (2 * e.x - 1) * (2 * e.y - 1) ≤ 127 * 127
  area_fits = mul-le-mul {n₂ = 127} {m₂ = 127} (omega arith) (omega arith)

  pub line_fits : (2 * e.y - 1 - 1) * (2 * e.x - 1) ≤ 127 * 127
  line_fits = mul-le-mul {n₂ = 127} {m₂ = 127} (omega arith) (omega arith)

  pub layer_fits : (2 * e.z - 1 - 1) * ((2 * e.x - 1) * (2 * e.y - 1)) ≤ 127 * (127 * 127)
  layer_fits = mul-le-mul {n₂ = 127} {m₂ = 127 * 127} (omega arith) area_fits
