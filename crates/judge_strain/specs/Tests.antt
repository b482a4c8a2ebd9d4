-- The tests of the readings' step, by lengths and by what is lent of the joiner's tables.
-- Assumes nothing.
use Rattle.std.specs.Prelude.{Bool, not, cond, ◌&&◌, List, [], ◌∷◌, ℕ, ◌*◌, eqb, get_or, length, Float}
use Rattle.lists.specs.Lists.{consecutive, all_of}
use Rattle.cells.specs.Box.{volume}
use Rattle.cells.specs.declared.Triple.{Triple}
use Rattle.cells.specs.Grid.{cells}
use Rattle.cutting.specs.Cutting.{Cutting, blocks, block_extents}
use Rattle.joiner.specs.Job.{Face, Curve, Closed, Job, tray, lengths_fit, numbers_per_block}
use Rattle.joiner.specs.Declines.{tallies_fit}
use Rattle.job.specs.JobState.{total_lengths}
use Rattle.judge.specs.declared.Entry.{Entry}
use Rattle.judge.specs.Judge.{first_refusal, reached_of, entry_of, map_stands_in, number_stands_in}
use Rattle.totals.specs.Totals.{both_stand, readings_fit}
use Rattle.strain_calls.specs.Tables.{TotalTables, total_tables}
use Rattle.judge_strain.specs.declared.Brought.{Brought}
use Rattle.judge_strain.specs.declared.StrainTables.{StrainTables}

-- The lengths of the map and the lists that a block brings, and of the tables.
pub record Sizes : Type 0 where
  pub cells : ℕ
  pub values : ℕ
  pub kinds : ℕ
  pub blocks : ℕ
  pub numbers : ℕ
  pub came : ℕ
  pub sums : ℕ
  pub counts : ℕ

abbrev pub sizes_of : List ℕ → List Float → List ℕ → List ℕ → List ℕ → TotalTables → Sizes
sizes_of m values kinds table numbers w =
    record {
      cells = length m;
      values = length values;
      kinds = length kinds;
      blocks = length table;
      numbers = length numbers;
      came = length w.came;
      sums = length w.sums;
      counts = length w.counts;
    }

-- The tables of the readings, of what the code is lent.
abbrev pub totals_in : StrainTables → TotalTables
totals_in t = total_tables t.came.now t.sums.now t.counts.now

-- .. and the lengths.
abbrev pub lengths_of : StrainTables → Brought → Sizes
lengths_of t g = sizes_of g.map.now g.values.now g.kinds.now t.blocks.now t.numbers.now (totals_in t)

-- 6 denies it: a block of e voxels brings a map of n cells, so many values and so many kind bytes.
unfoldable pub lists_in : Triple → ℕ → ℕ → ℕ → Bool
lists_in e n values kinds = eqb n (cells e) && (eqb values (volume e) && eqb kinds (volume e))

-- .. and the tables are those of so many blocks and faces.
unfoldable pub trays_fit : ℕ → Triple → ℕ → Sizes → Bool
trays_fit count e faces z =
    lists_in e z.cells z.values z.kinds &&
    (lengths_fit (tray z.blocks (numbers_per_block * count) ∷ []) && (lengths_fit (tray z.numbers faces ∷ []) && lengths_fit (total_lengths count faces z.came z.sums z.counts)))

-- 8 denies it: the final number at place x is 1 to `most`, and the total of that face stands in a volume of so many cells.
unfoldable pub face_in : List ℕ → ℕ → ℕ → List Float → List ℕ → ℕ → Bool
face_in numbers most size sums counts x = number_stands_in numbers most x && both_stand size sums counts (get_or numbers x 0)

-- .. of so many faces, from a place on: the definition's `faces_stand`.
unfoldable pub faces_in : List ℕ → ℕ → ℕ → List Float → List ℕ → ℕ → ℕ → Bool
faces_in numbers most size sums counts from count = all_of (face_in numbers most size sums counts) (consecutive from count)

-- .. and the tallies fit, and the map keeps to its block's entry.
unfoldable pub stand_in : Job → Triple → Entry → List ℕ → List Float → List ℕ → List ℕ → Bool
stand_in j e d numbers sums counts m =
    tallies_fit j &&
    (map_stands_in e d (j.told.entries Face) (j.told.entries Curve) m &&
    faces_in numbers (j.numbered Face) (cells j.told.cutting.extents) sums counts d.face_from d.faces)

-- The refusals from 8 on.
unfoldable pub late_of : Job → Triple → Entry → List ℕ → List Float → List ℕ → List ℕ → List Float → List ℕ → ℕ
late_of j e d numbers sums counts m values kinds = cond (not (stand_in j e d numbers sums counts m)) 8 (cond (not (readings_fit values kinds)) 12 0)

-- The refusal, 0 for none: `strain_refusal`, by the block table and the final numbers of faces.
unfoldable pub refusal_of : Job → List ℕ → List ℕ → TotalTables → ℕ → List ℕ → List Float → List ℕ → ℕ
refusal_of j table numbers w b m values kinds =
    let k : Cutting = j.told.cutting in
    first_refusal (reached_of j Closed w.came b b)
    (cond (not (trays_fit (blocks k) (block_extents k b) (j.told.entries Face) (sizes_of m values kinds table numbers w))) 6
    (late_of j (block_extents k b) (entry_of table b) numbers w.sums w.counts m values kinds))
