-- Extents and their limits (document 01): 1,024 for a volume, 64 for a block.
-- Assumes nothing.
use Rattle.std.specs.Prelude.{Bool, not, ◌&&◌, ◌||◌, ℕ, ◌+◌, ◌≤◌, leb, ltb}
use Rattle.cells.specs.declared.Triple.{Triple}

-- An extent is from 1 to its limit.
unfoldable pub is_extent : ℕ → ℕ → Bool
is_extent limit n = leb 1 n && leb n limit

-- Refusal 1, off size: "an extent is 0 or above its limit".
unfoldable pub off_size : ℕ → Triple → Bool
off_size limit e = not (is_extent limit e.x && (is_extent limit e.y && is_extent limit e.z))

-- Refusal 1 where an origin is told too: ".. or origin + extent is above 1,024".
unfoldable pub off_place : Triple → Triple → Bool
off_place e o = off_size 64 e || (ltb 1024 (o.x + e.x) || (ltb 1024 (o.y + e.y) || ltb 1024 (o.z + e.z)))

-- Each extent is from 1 to the limit: what `off_size` denies.
pub record Sized (limit : ℕ) (e : Triple) : Type 0 where
  pub x_low : 1 ≤ e.x
  pub y_low : 1 ≤ e.y
  pub z_low : 1 ≤ e.z
  pub x_high : e.x ≤ limit
  pub y_high : e.y ≤ limit
  pub z_high : e.z ≤ limit
