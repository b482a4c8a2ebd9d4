-- The tests of a lookup by lengths and by the entries of the block table, and the number by what they tell.
-- Assumes nothing.
use Rattle.std.specs.Prelude.{◌≡◌, Bool, true, not, cond, ◌&&◌, ◌||◌, List, ℕ, ◌+◌, ◌-◌, ◌/◌, ◌%◌, ◌<◌, eqb, ltb, get_or, length, Result, Ok, Err}
use Rattle.refusals.specs.declared.Refusal.{Refusal}
use Rattle.cells.specs.Box.{triple, coord, index}
use Rattle.cells.specs.declared.Axis.{Axis}
use Rattle.cells.specs.declared.Triple.{Triple}
use Rattle.cells.specs.Extents.{Sized}
use Rattle.cells.specs.Grid.{sides}
use Rattle.cutting.specs.Cutting.{Cutting, blocks, block_extents}
use Rattle.joiner.specs.Job.{Closed, State, Tables}
use Rattle.joiner.specs.Stages.{has_cell}
use Rattle.joiner.specs.Outcomes.{point_number}
use Rattle.blocks.specs.Blocks.{has_in}
use Rattle.blocks.specs.declared.Block.{Block}
use Rattle.job.specs.declared.Job.{Job}
use Rattle.job.specs.Lent.{no_tables, look_lent}
use Rattle.pass_point.specs.FoundPoints.{final_in}
use Rattle.judge.specs.declared.CallName.{CallName}
use Rattle.judge.specs.declared.Entry.{Entry}
use Rattle.judge.specs.Judge.{first_refusal, opened_of, lengths_of, block_fits, entry_of, map_judged, number_stands_in}
use Rattle.reading_cell.specs.declared.LookupTables.{LookupTables}
use Rattle.reading_cell.specs.declared.Span.{Span}

-- The tables that a lookup is lent. The others go unread.
abbrev pub lent : List ℕ → List ℕ → List ℕ → List ℕ → List ℕ → Tables
lent ticks blocks faces curves points = look_lent no_tables ticks blocks faces curves points

-- .. as the code is lent them.
abbrev pub lent_in : LookupTables → Tables
lent_in w = lent w.ticks.now w.blocks.now w.faces.now w.curves.now w.points.now

-- The refusals of a lookup, 0 for none, but for the final number that is handed out: off size, bad cut, wrong stage, no such place, wrong tray, stray label.
unfoldable pub look_judged : State → ℕ → List ℕ → Triple → ℕ
look_judged s b m c =
    let k : Cutting = s.job.told.cutting in
    first_refusal (opened_of s.job Closed)
    (cond (not (ltb b (blocks k) && has_cell k b c)) 4
    (map_judged s.job (block_extents k b) (entry_of s.tables.blocks b) (block_fits s.job CallName.Lookup (lengths_of s.tables) b (length m)) m))

-- ---- the number

-- One turn of the joiner's `bisect`.
unfoldable pub halved_of : List ℕ → Span → ℕ → Span
halved_of xs s v =
    cond (ltb (get_or xs (s.from + s.size / 2) 0) v) (record { from = s.from + s.size / 2 + 1; size = s.size - s.size / 2 - 1 })
    (record { from = s.from; size = s.size / 2 })

-- The order of the cell at a place.
unfoldable pub order_at : Triple → ℕ
order_at c = 3 - (c.x % 2 + c.y % 2 + c.z % 2)

-- A place of a volume of e voxels, that of a cell of the block.
pub record HasPlace (e : Triple) (block : Block) (c : Triple) : Type 0 where
  pub sized : Sized 1024 e
  pub has : has_in block c ≡ true
  pub inside : (a : Axis) → coord c a < coord (sides e) a

-- The joiner's `cell_number`, of a cell that has number n in the map.
unfoldable pub number_in : Job → Entry → List ℕ → List ℕ → List ℕ → ℕ → Triple → ℕ
number_in j d faces curves points n c =
    cond (eqb (order_at c) 3) n
    (cond (eqb (order_at c) 2) (final_in faces d.face_from n)
    (cond (eqb (order_at c) 1) (final_in curves d.curve_from n)
    (point_number points j.numbered.points (index (sides (triple j.nx j.ny j.nz)) c))))

-- The joiner's `handed_stands`, by the place of the block's first component.
unfoldable pub handed_in : List ℕ → ℕ → ℕ → ℕ → Bool
handed_in numbers most from n = eqb n 0 || number_stands_in numbers most (from + (n - 1))

-- The joiner's `look_stands`, of a cell that has number n in the map.
unfoldable pub look_in : Job → Entry → List ℕ → List ℕ → ℕ → Triple → Bool
look_in j d faces curves n c =
    cond (eqb (order_at c) 2) (handed_in faces j.numbered.faces d.face_from n)
    (cond (eqb (order_at c) 1) (handed_in curves j.numbered.curves d.curve_from n) true)

-- What an answer reads: 0 where the lookup is refused.
abbrev pub number_read : Result ℕ Refusal → ℕ
number_read (Ok n) = n
number_read (Err r) = 0
