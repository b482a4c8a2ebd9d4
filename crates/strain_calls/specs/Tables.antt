-- The tables of the readings (document 02, item 1), lent beside those of the job.
-- Assumes nothing.
use Rattle.std.specs.Prelude.{List, [], ◌∷◌, map, ℕ, ◌*◌, length, Float}
use Rattle.lists.specs.Lists.{zeros}
use Rattle.cutting.specs.Cutting.{blocks}
use Rattle.joiner.specs.Job.{Face, Told, Tray, tray}
use Rattle.strains.specs.Units.{plus_zero}

-- The totals, "one per entry of the face table", and the blocks whose readings have come.
pub record TotalTables : Type 0 where
  -- one for each block: not 0 once its readings have come
  pub came : List ℕ
  -- two for each entry of the face table: the sum of strains on the lower-code side, and on the higher-code side
  pub sums : List Float
  -- three for each sum: how many strains, clipped and missing
  pub counts : List ℕ

-- The three together.
abbrev pub total_tables : List ℕ → List Float → List ℕ → TotalTables
total_tables came sums counts = record { came = came; sums = sums; counts = counts }

-- Their lengths, and the stated ones.
unfoldable pub total_trays : Told → TotalTables → List Tray
total_trays o w =
    tray (length w.came) (blocks o.cutting) ∷ tray (length w.sums) (2 * o.entries Face) ∷ tray (length w.counts) (6 * o.entries Face) ∷ []

-- "The opening zeroes the totals": no readings have come.
unfoldable pub zeroed : TotalTables → TotalTables
zeroed w = total_tables (zeros (length w.came)) (map (λ x. plus_zero) w.sums) (zeros (length w.counts))
