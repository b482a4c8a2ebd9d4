-- What the contracts of the inner functions cite.
-- Assumes nothing.
use Rattle.std.specs.Prelude.{List, map, ℕ, ◌+◌, ◌≤◌, ◌<◌, length}
use Rattle.cells.specs.declared.Triple.{Triple}
use Rattle.records.specs.Fields.{packed}
use Rattle.records.specs.Record.{bit, bitmap_length, listed}

-- The bits of numbers, at most eight, as one byte.
unfoldable pub byte_of : List ℕ → ℕ
byte_of vs = packed (map bit vs)

-- Three numbers that fit in two bytes each.
pub record Short (t : Triple) : Type 0 where
  pub x_fits : t.x < 65536
  pub y_fits : t.y < 65536
  pub z_fits : t.z < 65536

-- Extents and origin fit in their bytes, the map is no longer than that of the largest block, and its record fits into a tray.
pub record Ready (e o : Triple) (m : List ℕ) (tray : ℕ) : Type 0 where
  pub extents : Short e
  pub origin : Short o
  pub few : length m ≤ 2048383
  pub fits : 12 + bitmap_length (length m) + length (listed m) ≤ tray
