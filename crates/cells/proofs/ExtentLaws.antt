-- Bounds of the grid of a volume within the limit.
-- Assumes nothing.
use mathlib.Core.Path.{◌≡◌, refl}
use Prim.Native.Nat.{ℕ, ◌-◌, ◌*◌, ◌≤◌, ◌<◌}
use native.Mathlib.Nat.{mul-pos, mul-le-mul}
use native.Mathlib.Omega.{arith}
use Rattle.cells.specs.Box.{volume}
use Rattle.cells.specs.declared.Triple.{Triple}
use Rattle.cells.specs.Extents.{Sized}
use Rattle.cells.specs.Grid.{sides, cells}

-- a line of the grid, a layer and the whole, as the code multiplies them
pub cells_are : (e : Triple) → cells e ≡ (2 * e.x - 1) * (2 * e.y - 1) * (2 * e.z - 1)
unfolding cells volume sides
cells_are e = refl

-- a product of three numbers up to a limit
pub product_high : (limit a b c : ℕ) → a ≤ limit → b ≤ limit → c ≤ limit → a * b * c ≤ limit * limit * limit
product_high limit a b c p q r = mul-le-mul (mul-le-mul p q) r

module _ {limit : ℕ} {e : Triple} (s : Sized limit e) where
  pub layer_low : 0 < (2 * e.x - 1) * (2 * e.y - 1)
  layer_low = mul-pos (omega (arith, s.x_low)) (omega (arith, s.y_low))

  pub layer_high : (2 * e.x - 1) * (2 * e.y - 1) ≤ (2 * limit - 1) * (2 * limit - 1)
  layer_high = mul-le-mul (omega (arith, s.x_high)) (omega (arith, s.y_high))

  pub cells_high : cells e ≤ (2 * limit - 1) * (2 * limit - 1) * (2 * limit - 1)
  cells_high = rw (cells_are e) (mul-le-mul layer_high (omega (arith, s.z_high)))

  pub area_high : e.x * e.y ≤ limit * limit
  area_high = mul-le-mul s.x_high s.y_high

  pub volume_high : volume e ≤ limit * limit * limit
  unfolding volume
  volume_high = product_high limit e.x e.y e.z s.x_high s.y_high s.z_high
