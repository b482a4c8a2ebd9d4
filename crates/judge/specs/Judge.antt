-- The tests that the joiner's calls have in common, in the order of the refusals.
-- Assumes nothing.
use Rattle.std.specs.Prelude.{Bool, not, cond, ◌&&◌, List, [], ◌∷◌, ◌++◌, ℕ, ◌+◌, ◌*◌, eqb, leb, ltb, get_or, length}
use Rattle.union_find.specs.Links.{sound_ways}
use Rattle.cells.specs.declared.Triple.{Triple}
use Rattle.cells.specs.Extents.{off_size}
use Rattle.cells.specs.Grid.{cells}
use Rattle.labels.specs.Components.{largest}
use Rattle.cutting.specs.Cutting.{blocks, block_extents, good_cut}
use Rattle.joiner.specs.Job.{Kind, Face, Curve, Point, Tables, State, Tray, tray, same_stage, ticked, lengths_fit, numbers_per_block}
use Rattle.joiner.specs.Job as joiner
use Rattle.joiner.specs.Calls.{Call, enrol, join, cross, point, look, reading, repeated, placed, maps_fit, layers_differ, full}
use Rattle.joiner.specs.Declines.{lent_to, stray, tallies_fit, adds}
use Rattle.job.specs.declared.Job.{Job}
use Rattle.job.specs.JobState.{by_kind, block_lengths, link_lengths, found_lengths, kind_lengths}
use Rattle.stages.specs.Ticks.{ticked_in}
use Rattle.judge.specs.declared.CallName.{CallName}
use Rattle.judge.specs.declared.KindLengths.{KindLengths}
use Rattle.judge.specs.declared.Lengths.{Lengths}
use Rattle.judge.specs.declared.Entry.{Entry}

-- ---- refusals

-- The first of two refusals, 0 for none.
unfoldable pub first_refusal : ℕ → ℕ → ℕ
first_refusal x y = cond (eqb x 0) y x

-- The refusals up to 3: off size, bad cut, wrong stage.
unfoldable pub opened_of : joiner.Job → joiner.Stage → ℕ
opened_of j s = cond (off_size 1024 j.told.cutting.extents) 1 (cond (not (good_cut j.told.cutting)) 2 (cond (not (same_stage j.stage s)) 3 0))

-- The refusals up to 5 of a step of block b: no such block, done already.
unfoldable pub reached_of : joiner.Job → joiner.Stage → List ℕ → ℕ → ℕ → ℕ
reached_of j s ticks b step = first_refusal (opened_of j s) (cond (not (ltb b (blocks j.told.cutting))) 4 (cond (ticked_in ticks step) 5 0))

-- The refusals from 6 on: wrong tray, stray label, layers differ, table full.
unfoldable pub late_of : State → Call → ℕ
late_of s c =
    cond (not (maps_fit s.job.told.cutting c && lengths_fit (lent_to s.job.told s.tables c))) 6
    (cond (stray s c) 8 (cond (layers_differ s.job.told.cutting c) 9 (cond (full s.job.told.entries s.job.sofar (adds s c)) 10 0)))

-- The refusals from 4 on.
unfoldable pub placed_of : State → Call → ℕ
placed_of s c =
    cond (not (placed s.job.told.cutting s.job.numbered c)) 4 (cond (repeated s.job.told.cutting (ticked s.tables) c) 5 (late_of s c))

-- ---- the lengths of what is lent

-- The entries that the opening was told, by kind.
abbrev pub entries_of : Job → Kind → ℕ
entries_of j = by_kind j.entries.faces j.entries.curves j.entries.points

-- The lengths of the tables of one sort.
abbrev kinds_of : (Kind → List ℕ) → KindLengths
kinds_of f = record { faces = length (f Face); curves = length (f Curve); points = length (f Point) }

-- The lengths of tables.
abbrev pub lengths_of : Tables → Lengths
lengths_of t =
    record {
      ticks = length t.ticks;
      blocks = length t.blocks;
      links = kinds_of t.links;
      keys = kinds_of t.keys;
      rows = kinds_of t.rows;
      numbers = kinds_of t.numbers;
      firsts = kinds_of t.firsts;
      listed = kinds_of t.listed;
    }

-- The name of a call.
abbrev pub name_of : Call → CallName
name_of (enrol b m) = CallName.Enrol
name_of (join b c m n) = CallName.Seam
name_of (cross b m) = CallName.Crossing
name_of (point b m) = CallName.Points
name_of (look b m c) = CallName.Lookup
name_of (reading κ n) = CallName.Row

-- The stage that a call belongs to: the joiner's `stage_of`. An opening leaves the first one.
abbrev pub stage_for : CallName → joiner.Stage
stage_for CallName.Open = joiner.Enrol
stage_for CallName.Enrol = joiner.Enrol
stage_for CallName.Seam = joiner.Seam
stage_for CallName.Crossing = joiner.Crossing
stage_for CallName.Points = joiner.Points
stage_for CallName.Lookup = joiner.Closed
stage_for CallName.Row = joiner.Closed

-- All tables of a kind, by their lengths.
abbrev pub kind_lent : Kind → (Kind → ℕ) → Lengths → List Tray
kind_lent Face n z = kind_lengths 2 (n Face) z.keys.faces z.rows.faces z.numbers.faces z.firsts.faces z.listed.faces
kind_lent Curve n z = kind_lengths 4 (n Curve) z.keys.curves z.rows.curves z.numbers.curves z.firsts.curves z.listed.curves
kind_lent Point n z = kind_lengths 6 (n Point) z.keys.points z.rows.points z.numbers.points z.firsts.points z.listed.points

-- The tables that a call is lent, by their lengths, of a job of so many blocks and entries: the joiner's `lent_to`.
abbrev pub lent_by : CallName → ℕ → (Kind → ℕ) → Lengths → List Tray
lent_by CallName.Open count n z =
    block_lengths count z.ticks z.blocks ++
    link_lengths (n Face) (n Curve) z.links.faces z.links.curves ++ kind_lent Face n z ++ kind_lent Curve n z ++ kind_lent Point n z
lent_by CallName.Enrol count n z =
    block_lengths count z.ticks z.blocks ++
    link_lengths (n Face) (n Curve) z.links.faces z.links.curves ++
    found_lengths 2 (n Face) z.keys.faces z.rows.faces ++ found_lengths 4 (n Curve) z.keys.curves z.rows.curves
lent_by CallName.Seam count n z = block_lengths count z.ticks z.blocks ++ link_lengths (n Face) (n Curve) z.links.faces z.links.curves
lent_by CallName.Crossing count n z =
    block_lengths count z.ticks z.blocks ++ link_lengths (n Face) (n Curve) z.links.faces z.links.curves ++ kind_lent Face n z ++ kind_lent Curve n z
lent_by CallName.Points count n z = block_lengths count z.ticks z.blocks ++ tray z.numbers.curves (n Curve) ∷ kind_lent Point n z
lent_by CallName.Lookup count n z =
    block_lengths count z.ticks z.blocks ++ tray z.numbers.faces (n Face) ∷ tray z.numbers.curves (n Curve) ∷ tray z.firsts.points (n Point) ∷ []
lent_by CallName.Row count n z = tray z.listed.faces (2 * n Face) ∷ tray z.listed.curves (4 * n Curve) ∷ tray z.listed.points (6 * n Point) ∷ []

-- 6 denies it: the map of a block of e voxels has so many cells, and the tables that the call is lent have the stated lengths.
unfoldable pub fits_lengths : CallName → ℕ → Triple → (Kind → ℕ) → Lengths → ℕ → Bool
fits_lengths c count e n z size = eqb size (cells e) && lengths_fit (lent_by c count n z)

-- ---- a block's map and its entry

-- What the block table tells of block b: the joiner's `count_of` and `from_of`.
unfoldable pub entry_of : List ℕ → ℕ → Entry
entry_of blocks b =
    record {
      faces = get_or blocks (numbers_per_block * b) 0;
      curves = get_or blocks (numbers_per_block * b + 1) 0;
      points = get_or blocks (numbers_per_block * b + 2) 0;
      face_from = get_or blocks (numbers_per_block * b + 3) 0;
      curve_from = get_or blocks (numbers_per_block * b + 4) 0;
    }

-- 8 denies it, by what a survey and the block table tell.
unfoldable pub stands_by : ℕ → ℕ → ℕ → Entry → ℕ → ℕ → Bool
stands_by faces curves points d all_faces all_curves =
    leb faces d.faces &&
    (leb curves d.curves &&
    (leb points d.points && (leb (d.face_from + d.faces) all_faces && leb (d.curve_from + d.curves) all_curves)))

-- .. of a map: the joiner's `map_stands`.
unfoldable pub map_stands_in : Triple → Entry → ℕ → ℕ → List ℕ → Bool
map_stands_in e d all_faces all_curves m = stands_by (largest e m 2) (largest e m 1) (largest e m 0) d all_faces all_curves

-- .. of the links of a block's faces and curves: the joiner's `links_stand`.
unfoldable pub links_stand_in : Entry → List ℕ → List ℕ → Bool
links_stand_in d faces curves = sound_ways faces d.face_from d.faces && sound_ways curves d.curve_from d.curves

-- .. of the final number at a place: the joiner's `number_stands`.
unfoldable pub number_stands_in : List ℕ → ℕ → ℕ → Bool
number_stands_in numbers most x = ltb 0 (get_or numbers x 0) && leb (get_or numbers x 0) most

-- ---- the judge of a call that brings a block's map

-- The refusals 6 and 8 by lengths, tallies, map and block table.
unfoldable pub map_judged : joiner.Job → Triple → Entry → Bool → List ℕ → ℕ
map_judged j e d whole m = cond (not whole) 6 (cond (not (tallies_fit j && map_stands_in e d (j.told.entries Face) (j.told.entries Curve) m)) 8 0)

-- 6 denies it, of block b.
unfoldable pub block_fits : joiner.Job → CallName → Lengths → ℕ → ℕ → Bool
block_fits j c z b size = fits_lengths c (blocks j.told.cutting) (block_extents j.told.cutting b) j.told.entries z size

-- The refusals up to 6 of a step of block b.
unfoldable pub lengths_judged : joiner.Job → List ℕ → CallName → Lengths → ℕ → ℕ → ℕ → ℕ
lengths_judged j ticks c z b step size = first_refusal (reached_of j (stage_for c) ticks b step) (cond (not (block_fits j c z b size)) 6 0)

-- .. up to 8, but for what the call tests itself.
unfoldable pub judged_of : joiner.Job → List ℕ → List ℕ → CallName → Lengths → ℕ → ℕ → List ℕ → ℕ
judged_of j ticks table c z b step m =
    first_refusal (reached_of j (stage_for c) ticks b step) (map_judged j (block_extents j.told.cutting b) (entry_of table b) (block_fits j c z b (length m)) m)
