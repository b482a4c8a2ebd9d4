-- The readings of a block's own face cells, in cell order, each for the side of its face (document 02, item 1).
-- Assumes nothing.
use Rattle.std.specs.Prelude.{◌≡◌, cond, List, [], ◌∷◌, ℕ, zero, suc, ◌+◌, ◌-◌, ◌*◌, ◌/◌, ◌%◌, ◌≤◌, ◌<◌, eqb, get_or, length, Float, Option, Some, None}
use Rattle.cells.specs.Box.{volume, place}
use Rattle.cells.specs.declared.Triple.{Triple}
use Rattle.cells.specs.Grid.{sides, cells, voxel}
use Rattle.cells.specs.Extents.{Sized}
use Rattle.cells.specs.Row.{row_of}
use Rattle.lines.specs.Lines.{odds, line_y, first_stride, LineAt}
use Rattle.labels.specs.Components.{of_order}
use Rattle.pass_point.specs.FoundPoints.{final_in}
use Rattle.strains.specs.declared.Reading.{Reading}
use Rattle.totals.specs.Totals.{Taken, taken, slot_of}
use Rattle.strain_calls.specs.Adding.{gathered, face_taken}
use Rattle.lowest.specs.Lowest.{starts_by}
use Rattle.pass_strain.specs.declared.FaceLine.{FaceLine}
use Rattle.pass_strain.specs.declared.FaceSide.{FaceSide}
use Rattle.pass_strain.specs.declared.FaceSide.TheVariants.{Lower, Higher}
use Rattle.pass_strain.specs.declared.BlockInput.{BlockInput}

-- What a block brings: its map, the final numbers of faces and the place of its first face among them, and its readings by voxel.
pub record Brought : Type 0 where
  pub numbered : List ℕ
  pub numbers : List ℕ
  pub from : ℕ
  pub values : List Float
  pub kinds : List ℕ

-- What a block brings, by its parts.
abbrev pub brought : List ℕ → List ℕ → ℕ → List Float → List ℕ → Brought
brought m ns f vs ks = record { numbered = m; numbers = ns; from = f; values = vs; kinds = ks }

-- .. as the code has them.
abbrev pub input_of : BlockInput → Brought
input_of g = brought g.map.now g.numbers.now g.from g.values.now g.kinds.now

-- The final number of the face that cell p shows, 0 for none.
unfoldable pub face_at : Brought → ℕ → ℕ
face_at g p = final_in g.numbers g.from (get_or g.numbered p 0)

-- .. or 0 if the cell does not count here, since it is before the block's starts s on an axis: "a face cell in an overlap counts once".
unfoldable pub own_face : Triple → Triple → Brought → ℕ → ℕ
own_face e s g p = cond (starts_by s (place (sides e) p)) (face_at g p) 0

-- What is taken at face cell p, where it counts here: the readings of its voxels, but for one that is outside.
unfoldable pub cell_taken : Triple → Triple → Brought → ℕ → List Taken
cell_taken e s g p = cond (eqb (own_face e s g p) 0) [] (face_taken e g.numbered g.values g.kinds (own_face e s g p) p)

-- What a block of e voxels with starts s adds to the totals: its own face cells in cell order.
unfoldable pub block_taken : Triple → Triple → Brought → List Taken
block_taken e s g = gathered (cell_taken e s g) (of_order e 2)

-- ---- what the inner functions require and answer

-- The map and the lists of a block of e voxels have its sizes.
pub record Whole (e : Triple) (m : List ℕ) (values : List Float) (kinds : List ℕ) : Type 0 where
  pub sized : Sized 64 e
  pub whole : length m ≡ cells e
  pub valued : length values ≡ volume e
  pub kinded : length kinds ≡ volume e

-- Line l, told for its face cells: y and z, the stride of their odd axis, how far apart their voxels stand in the lists, and the place of the voxel at its
-- first cell or next to it.
pub record Lies (e : Triple) (l : ℕ) (r : FaceLine) : Type 0 where
  pub line : LineAt e 1 l r.line
  pub y : r.y ≡ l % (sides e).y
  pub z : r.z ≡ l / (sides e).y
  pub stride : r.stride ≡ first_stride r.line.start (line_y e l) (sides e).x ((sides e).x * (sides e).y)
  pub apart : r.apart ≡ first_stride r.line.start (line_y e l) e.x (e.x * e.y)
  pub first : r.first ≡ l % (sides e).y / 2 * e.x + l / (sides e).y / 2 * (e.x * e.y)

-- Cell p has one odd axis, of stride a; the voxels below and above it stand at places v and v + d of the lists.
pub record Beside (e : Triple) (m : List ℕ) (values : List Float) (kinds : List ℕ) (p a v d : ℕ) : Type 0 where
  pub whole : length m ≡ cells e
  pub valued : length values ≡ volume e
  pub kinded : length kinds ≡ volume e
  pub within : p < cells e
  pub axis : odds e p ≡ a ∷ []
  pub below : v ≡ voxel e (p - a)
  pub above : v + d ≡ voxel e (p + a)

-- The side of a voxel of number u at a cell whose row begins with `low` and `high`: 0 lower, 1 higher, 2 neither.
unfoldable pub side_of : ℕ → ℕ → ℕ → ℕ
side_of low high u = cond (eqb u 0) 2 (cond (eqb u low) 0 (cond (eqb u high) 1 2))

-- A side by its number.
abbrev pub side_number : Option FaceSide → ℕ
side_number None = 2
side_number (Some Lower) = 0
side_number (Some Higher) = 1

-- The sides of the voxels of numbers u and w below and above a face cell, by its row.
pub record Sided (u w : ℕ) (r : Option FaceSide × Option FaceSide) : Type 0 where
  pub below : side_number r.0 ≡ side_of (get_or (row_of (u ∷ w ∷ [])) 0 0) (get_or (row_of (u ∷ w ∷ [])) 1 0) u
  pub above : side_number r.1 ≡ side_of (get_or (row_of (u ∷ w ∷ [])) 0 0) (get_or (row_of (u ∷ w ∷ [])) 1 0) w

-- The reading x on a side of face n.
unfoldable pub side_taken : ℕ → ℕ → Reading → List Taken
side_taken n side x = cond (eqb side 2) [] (taken (slot_of n side) x ∷ [])

-- The answer for a cell of a map at a place.
pub record OwnFace (s : Triple) (m numbers : List ℕ) (from p : ℕ) (c : Triple) (r : ℕ) : Type 0 where
  pub is : r ≡ cond (starts_by s c) (final_in numbers from (get_or m p 0)) 0

-- From x on, two apart, so many cells of a line of w show 0 in a map; the line begins at `base`, and r is the cell after them.
pub record Skips (m : List ℕ) (base w x r : ℕ) : Type 0 where
  pub many : ℕ
  pub is : r ≡ x + 2 * many
  pub blank : (i : ℕ) → i < many → (x + 2 * i < w) × (get_or m (base + (x + 2 * i)) 0 ≡ 0)

-- Where a line is looked at next, after j of the listed cells: at its start, and then two after the last of them.
unfoldable pub next_at : ℕ → List ℕ → ℕ → ℕ
next_at start list zero = start
next_at start list (suc j) = get_or list j 0 + 2

-- The first `many` entries of a list are cells of a line of w from `start` on, two apart, and every cell between them, before and after shows 0.
pub record Listed (m : List ℕ) (base w start : ℕ) (list : List ℕ) (many : ℕ) : Type 0 where
  pub few : many ≤ 64
  pub each : (j : ℕ) → j < many → (get_or list j 0 < w) × Skips m base w (next_at start list j) (get_or list j 0)
  pub past : ℕ
  pub rest : Skips m base w (next_at start list many) past
  pub ended : w ≤ past
