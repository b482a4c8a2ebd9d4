-- The job and its tables (document 01, "Cutting and joining"), as the contracts of the joiner's public entries see them.
-- Assumes nothing.
use Rattle.std.specs.Prelude.{Bool, true, not, ◌&&◌, List, [], ◌∷◌, ◌++◌, ℕ, ◌+◌, ◌-◌, ◌*◌, ◌/◌, eqb, get_or, length}
use Rattle.cutting.specs.Cutting.{Cutting, blocks, most_blocks}

-- What the tables hold: faces, curves, points.
pub data Kind : Type 0 where
  Face Curve Point : Kind

-- The order of their cells.
abbrev pub order_of : Kind → ℕ
order_of Face = 2
order_of Curve = 1
order_of Point = 0

-- The places of a row: "two codes", "four face numbers", "six curve numbers".
abbrev pub width : Kind → ℕ
width Face = 2
width Curve = 4
width Point = 6

-- "A job goes through stages."
pub data Stage : Type 0 where
  Enrol Seam Crossing Points Closed : Stage

-- A stage by number, and whether two are one.
abbrev pub stage_number : Stage → ℕ
stage_number Enrol = 0
stage_number Seam = 1
stage_number Crossing = 2
stage_number Points = 3
stage_number Closed = 4

unfoldable pub same_stage : Stage → Stage → Bool
same_stage s t = eqb (stage_number s) (stage_number t)

-- "Opening a job states the volume's extents, the cut lists and the entries of each table."
pub record Told : Type 0 where
  pub cutting : Cutting
  pub entries : Kind → ℕ

-- The job: what the opening was told, the stage, and the tallies.
pub record Job : Type 0 where
  pub told : Told
  pub stage : Stage
  -- enrolled faces and curves, found points
  pub sofar : Kind → ℕ
  -- faces, curves and points once numbered
  pub numbered : Kind → ℕ

-- The tables, all lent. A component has a place: components of one block stand together, in the order of their numbers.
pub record Tables : Type 0 where
  -- `ticks_per_block` for each block: enrolled; its seam with the next block along x, y, z; crossed; its points found
  pub ticks : List ℕ
  -- `numbers_per_block` for each block: its largest face, curve and point number, and the places of its first face and first curve
  pub blocks : List ℕ
  -- for each enrolled face and curve: how far back the one stands that it is joined to, 0 where to none before it (none for points)
  pub links : Kind → List ℕ
  -- for each enrolled or found component: its key, of its first position and its block
  pub keys : Kind → List ℕ
  -- .. and its row: a face's codes, a curve's faces as place + 1, a point's curves by final number
  pub rows : Kind → List ℕ
  -- .. and, once numbered, its final number
  pub numbers : Kind → List ℕ
  -- the closed tables: first position and row of number n stand at n − 1
  pub firsts : Kind → List ℕ
  pub listed : Kind → List ℕ

-- The job and its tables, as a call finds or leaves them.
pub record State : Type 0 where
  pub job : Job
  pub tables : Tables

-- Step i of the job is ticked.
unfoldable pub ticked : Tables → ℕ → Bool
ticked t i = not (eqb (get_or t.ticks i 0) 0)

-- The numbers of a block in the block table: its three counts, and where its faces and curves begin.
abbrev pub numbers_per_block : ℕ
numbers_per_block = 5

-- The columns of the block table.
abbrev pub column : Kind → ℕ
column Face = 0
column Curve = 1
column Point = 2

-- "Its largest number in each order is its count"; the place of the block's first face or curve.
unfoldable pub count_of : Tables → Kind → ℕ → ℕ
count_of t κ b = get_or t.blocks (numbers_per_block * b + column κ) 0

-- .. and the place of its first face or curve (none for points).
unfoldable pub from_of : Tables → Kind → ℕ → ℕ
from_of t κ b = get_or t.blocks (numbers_per_block * b + (3 + column κ)) 0

-- The place of number n of block b.
unfoldable pub node : Tables → Kind → ℕ → ℕ → ℕ
node t κ b n = from_of t κ b + (n - 1)

-- The base of keys. No block of a cutting is as large, so a key has its block below the base and its position above it.
abbrev pub key_base : ℕ
key_base = most_blocks

-- A position in the volume and a block in one number: "equal positions go by block".
unfoldable pub key_of : ℕ → ℕ → ℕ
key_of position b = position * key_base + b

-- The position of a key.
abbrev pub key_position : ℕ → ℕ
key_position key = key / key_base

-- The first position of the component at place x.
unfoldable pub first_at : Tables → Kind → ℕ → ℕ
first_at t κ x = key_position (get_or (t.keys κ) x 0)

-- A table's length, and the stated one.
pub record Tray : Type 0 where
  pub has : ℕ
  pub states : ℕ

-- The two lengths together.
abbrev pub tray : ℕ → ℕ → Tray
tray n m = record { has = n; states = m }

-- 6 denies it: every table has its stated length.
unfoldable pub lengths_fit : List Tray → Bool
lengths_fit [] = true
lengths_fit (t ∷ ts) = eqb t.has t.states && lengths_fit ts

-- The ticks of a block: one for each of its steps (`Stages`).
abbrev pub ticks_per_block : ℕ
ticks_per_block = 6

-- The tables of blocks: ticks and numbers for each.
unfoldable pub block_trays : Told → Tables → List Tray
block_trays o t = tray (length t.ticks) (ticks_per_block * blocks o.cutting) ∷ tray (length t.blocks) (numbers_per_block * blocks o.cutting) ∷ []

-- The links of faces and curves: one for each entry.
unfoldable pub link_trays : Told → Tables → List Tray
link_trays o t = tray (length (t.links Face)) (o.entries Face) ∷ tray (length (t.links Curve)) (o.entries Curve) ∷ []

-- Keys and rows of what is enrolled or found.
unfoldable pub found_trays : Told → Tables → Kind → List Tray
found_trays o t κ = tray (length (t.keys κ)) (o.entries κ) ∷ tray (length (t.rows κ)) (width κ * o.entries κ) ∷ []

-- Final numbers.
unfoldable pub number_trays : Told → Tables → Kind → List Tray
number_trays o t κ = tray (length (t.numbers κ)) (o.entries κ) ∷ []

-- The closed table of first positions.
unfoldable pub first_trays : Told → Tables → Kind → List Tray
first_trays o t κ = tray (length (t.firsts κ)) (o.entries κ) ∷ []

-- The closed table of rows.
unfoldable pub listed_trays : Told → Tables → Kind → List Tray
listed_trays o t κ = tray (length (t.listed κ)) (width κ * o.entries κ) ∷ []

-- The tables of one kind.
unfoldable pub kind_trays : Told → Tables → Kind → List Tray
kind_trays o t κ = found_trays o t κ ++ number_trays o t κ ++ first_trays o t κ ++ listed_trays o t κ
