-- What the joiner's public entries answer and leave, for all inputs (document 01, "Cutting and joining"): equations of whole tables where the
-- document decides them. Free are the links, but for which components are one, and the closed tables behind their last component.
-- Assumes nothing.
use Rattle.std.specs.Prelude.{◌≡◌, ◌↔◌, ◌≢◌, Bool, true, not, cond, ◌&&◌, ◌||◌, ℕ, zero, suc, ◌+◌, ◌-◌, ◌*◌, ◌/◌, ◌%◌, eqb, leb, ltb, get_or, length, set, take, drop}
use mathlib.Core.List.{List, [], ◌∷◌, ◌++◌, map, Memᴰ}
use Rattle.lists.specs.Lists.{consecutive, tabulate, keep, zeros, all_of, overlay}
use Rattle.refusals.specs.declared.Refusal.{Refusal}
use Rattle.refusals.specs.Refusals.{Case, ◌if◌, given_refusal}
use Rattle.closure.specs.Joined.{Edge, edge}
use Rattle.union_find.specs.Links.{root, sound_at, Rooted}
use Rattle.cells.specs.Box.{triple, index}
use Rattle.cells.specs.declared.Triple.{Triple}
use Rattle.cells.specs.Extents.{off_size}
use Rattle.cells.specs.Grid.{sides, order, upper_neighbours}
use Rattle.cells.specs.Row.{row_of, sort_ascending, pad_to}
use Rattle.labels.specs.Components.{of_order, largest, component, component_row}
use Rattle.cutting.specs.Cutting.{Cutting, block_extents, embed, good_cut}
use Rattle.joiner.specs.Job.{Kind, Face, Curve, Point, order_of, width, Enrol, Points, Closed, Told, Job, Tables, State, ticked, node, key_of, first_at, Tray, lengths_fit, block_trays, link_trays, kind_trays, numbers_per_block}
use Rattle.joiner.specs.Stages.{local, shared, enrol_step, seam_step, crossing_step, point_step, next_after}
use Rattle.joiner.specs.Calls.{Call, enrol, join, cross, point, look, reading, Answer, answer}
use Rattle.joiner.specs.Declines.{final_of, final_row, point_cells, adds, refusal}

-- ---- opening

-- The opening is lent every table.
unfoldable pub all_trays : Told → Tables → List Tray
all_trays o t = block_trays o t ++ link_trays o t ++ kind_trays o t Face ++ kind_trays o t Curve ++ kind_trays o t Point

-- "1 off size", "2 bad cut", "6 wrong tray".
unfoldable pub open_declines : Told → Tables → List Case
open_declines o t = Refusal.OffSize if off_size 1024 o.cutting.extents ∷ Refusal.BadCut if not (good_cut o.cutting) ∷ Refusal.WrongTray if not (lengths_fit (all_trays o t)) ∷ []

-- What is given, 0 for none.
unfoldable pub open_refusal : Told → Tables → ℕ
open_refusal o t = given_refusal (open_declines o t)

-- The tables that an opening leaves: no step is ticked, and all else may hold another job's numbers.
pub record Cleared (lent t : Tables) : Type 0 where
  pub ticks : t.ticks ≡ zeros (length lent.ticks)
  pub blocks : t.blocks ≡ lent.blocks
  pub links : (κ : Kind) → t.links κ ≡ lent.links κ
  pub keys : (κ : Kind) → t.keys κ ≡ lent.keys κ
  pub rows : (κ : Kind) → t.rows κ ≡ lent.rows κ
  pub numbers : (κ : Kind) → t.numbers κ ≡ lent.numbers κ
  pub firsts : (κ : Kind) → t.firsts κ ≡ lent.firsts κ
  pub listed : (κ : Kind) → t.listed κ ≡ lent.listed κ

-- A job whose tallies are 0, in the first stage.
pub record Fresh (j : Job) : Type 0 where
  pub stage : j.stage ≡ Enrol
  pub sofar : (κ : Kind) → j.sofar κ ≡ 0
  pub numbered : (κ : Kind) → j.numbered κ ≡ 0

-- The cut lists are the caller's; all else of a job that was not opened is 0.
unfoldable pub nothing : Told → Told
nothing o = record { cutting = record { extents = triple 0 0 0; cx = o.cutting.cx; cy = o.cutting.cy; cz = o.cutting.cz }; entries = λ κ. 0 }

-- An accepted opening.
pub record Opened (o : Told) (lent : Tables) (s : State) : Type 0 where
  pub accepted : open_refusal o lent ≡ 0
  pub told : s.job.told ≡ o
  pub fresh : Fresh s.job
  pub tables : Cleared lent s.tables

-- A refused one: "every other field 0 or empty", and the tables as they were.
pub record Unopened (o : Told) (lent : Tables) (s : State) : Type 0 where
  pub extents : s.job.told.cutting ≡ (nothing o).cutting
  pub entries : (κ : Kind) → s.job.told.entries κ ≡ 0
  pub fresh : Fresh s.job
  pub tables : s.tables ≡ lent

-- ---- which components are one

-- The classes of f, and those that R relates, made one.
pub data Together (f : ℕ → ℕ) (R : ℕ → ℕ → Type 0) : ℕ → ℕ → Type 0 where
  same : {x y : ℕ} → f x ≡ f y → Together f R x y
  joined : {x y : ℕ} → R x y → Together f R x y
  back : {x y : ℕ} → Together f R x y → Together f R y x
  via : {x y z : ℕ} → Together f R x y → Together f R y z → Together f R x z

-- The links afterwards: what was one stays one, what R relates becomes one, and nothing else. None is made longer than its place.
pub record Merged (before after : List ℕ) (R : ℕ → ℕ → Type 0) : Type 0 where
  pub size : length after ≡ length before
  pub one : (x y : ℕ) → (root after x ≡ root after y) ↔ Together (root before) R x y
  pub sound : (x : ℕ) → sound_at before x ≡ true → sound_at after x ≡ true

-- "Numbers of one active face or curve cell seen from both blocks become the same component."
pub record AtSeam (k : Cutting) (t : Tables) (κ : Kind) (b c : ℕ) (m n : List ℕ) (x y : ℕ) : Type 0 where
  pub cell : Edge
  pub both : Memᴰ cell (shared k b c)
  pub level : order (block_extents k b) cell.from ≡ order_of κ
  pub one : get_or m cell.from 0 ≢ 0
  pub two : get_or n cell.to 0 ≢ 0
  pub x_is : x ≡ node t κ b (get_or m cell.from 0)
  pub y_is : y ≡ node t κ c (get_or n cell.to 0)

-- "Rows, read through the faces joined so far": a face is read as the place of its root + 1.
unfoldable pub through_links : Tables → ℕ → ℕ → ℕ
through_links t b n = cond (eqb n 0) 0 (suc (root (t.links Face) (node t Face b n)))

-- The row of cell p, read so.
unfoldable pub joined_row : Cutting → Tables → ℕ → List ℕ → ℕ → List ℕ
joined_row k t b m p = row_of (map (λ q. through_links t b (get_or m q 0)) (upper_neighbours (block_extents k b) p))

-- "At every point cell, active in the block or not, two active curve cells among its upper neighbours whose rows .. are equal."
pub record AtCrossing (k : Cutting) (t : Tables) (b : ℕ) (m : List ℕ) (x y : ℕ) : Type 0 where
  pub at : ℕ
  pub p : ℕ
  pub q : ℕ
  pub cell : Memᴰ at (of_order (block_extents k b) 0)
  pub up_p : Memᴰ p (upper_neighbours (block_extents k b) at)
  pub up_q : Memᴰ q (upper_neighbours (block_extents k b) at)
  pub one : get_or m p 0 ≢ 0
  pub two : get_or m q 0 ≢ 0
  pub rows : joined_row k t b m p ≡ joined_row k t b m q
  pub x_is : x ≡ node t Curve b (get_or m p 0)
  pub y_is : y ≡ node t Curve b (get_or m q 0)

-- ---- what every accepted step does: it is ticked, the stage moved, the tallies added to

-- The step is ticked, the stage moved on if it was the last, and what the step adds is added.
pub record Ticked (s t : State) (c : Call) (step : ℕ) : Type 0 where
  pub told : t.job.told ≡ s.job.told
  pub ticks : t.tables.ticks ≡ set s.tables.ticks step 1
  pub stage : t.job.stage ≡ next_after s.job.told.cutting (ticked t.tables) s.job.stage
  pub sofar : (κ : Kind) → t.job.sofar κ ≡ s.job.sofar κ + adds s c κ

-- What a step may keep of a kind: what is enrolled or found, and what is numbered.
pub record KeptFound (s t : State) (κ : Kind) : Type 0 where
  pub keys : t.tables.keys κ ≡ s.tables.keys κ
  pub rows : t.tables.rows κ ≡ s.tables.rows κ

-- .. its numbers and its closed tables.
pub record KeptNumbers (s t : State) (κ : Kind) : Type 0 where
  pub numbered : t.job.numbered κ ≡ s.job.numbered κ
  pub numbers : t.tables.numbers κ ≡ s.tables.numbers κ
  pub firsts : t.tables.firsts κ ≡ s.tables.firsts κ
  pub listed : t.tables.listed κ ≡ s.tables.listed κ

-- ---- enrol

-- The key of number n of block b: "a number that no cell has stands at position 0".
unfoldable pub first_of : Cutting → ℕ → List ℕ → ℕ
first_of k b [] = 0
first_of k b (p ∷ ps) = embed k b p

-- Number n's first position and block, as a key.
unfoldable pub enrolled_key : Cutting → ℕ → List ℕ → Kind → ℕ → ℕ
enrolled_key k b m κ n = key_of (first_of k b (component (block_extents k b) m (order_of κ) n)) b

-- Place i of its row: a face's codes; a curve's faces as place + 1, the block's faces standing from `from` on.
unfoldable pub shifted : ℕ → Kind → ℕ → ℕ
shifted from Face x = x
shifted from Curve x = cond (eqb x 0) 0 (from + x)
shifted from Point x = x

-- .. out of the row of its first cell.
unfoldable pub enrolled_row : Cutting → ℕ → ℕ → List ℕ → Kind → ℕ → ℕ → ℕ
enrolled_row k from b m κ n i = shifted from κ (get_or (component_row (block_extents k b) m (order_of κ) n) i 0)

-- The tables of one kind after enrolling block b, whose components stand from the tally on.
pub record EnrolledKind (s t : State) (b : ℕ) (m : List ℕ) (κ : Kind) : Type 0 where
  pub links : t.tables.links κ ≡ overlay (s.tables.links κ) (s.job.sofar κ) (λ i. 0) (adds s (enrol b m) κ)
  pub keys : t.tables.keys κ
      ≡ overlay (s.tables.keys κ) (s.job.sofar κ) (λ i. enrolled_key s.job.told.cutting b m κ (suc i)) (adds s (enrol b m) κ)
  pub rows : t.tables.rows κ
      ≡ overlay (s.tables.rows κ) (width κ * s.job.sofar κ)
      (λ i. enrolled_row s.job.told.cutting (s.job.sofar Face) b m κ (suc (i / width κ)) (i % width κ)) (width κ * adds s (enrol b m) κ)

-- The numbers of a block.
unfoldable pub block_entry : State → ℕ → List ℕ → ℕ → ℕ
block_entry s b m i =
    get_or (largest (block_extents s.job.told.cutting b) m 2 ∷ largest (block_extents s.job.told.cutting b) m 1 ∷
    largest (block_extents s.job.told.cutting b) m 0 ∷ s.job.sofar Face ∷ s.job.sofar Curve ∷ []) i 0

-- "Enrol": the block's numbers and components are written, and nothing else.
pub record EnrolDone (s : State) (b : ℕ) (m : List ℕ) (t : State) : Type 0 where
  pub step : Ticked s t (enrol b m) (enrol_step b)
  pub blocks : t.tables.blocks ≡ overlay s.tables.blocks (numbers_per_block * b) (block_entry s b m) numbers_per_block
  pub faces : EnrolledKind s t b m Face
  pub curves : EnrolledKind s t b m Curve
  pub points : KeptFound s t Point
  pub numbers : (κ : Kind) → KeptNumbers s t κ

-- ---- seam

-- "Seam": faces and curves seen from both blocks are joined, and nothing else changes.
pub record SeamDone (s : State) (b c : ℕ) (m n : List ℕ) (t : State) : Type 0 where
  pub step : Ticked s t (join b c m n) (seam_step s.job.told.cutting (edge b c))
  pub blocks : t.tables.blocks ≡ s.tables.blocks
  pub faces : Merged (s.tables.links Face) (t.tables.links Face) (AtSeam s.job.told.cutting s.tables Face b c m n)
  pub curves : Merged (s.tables.links Curve) (t.tables.links Curve) (AtSeam s.job.told.cutting s.tables Curve b c m n)
  pub found : (κ : Kind) → KeptFound s t κ
  pub numbers : (κ : Kind) → KeptNumbers s t κ

-- ---- numbering, after the last crossing and after the last point step

-- x comes before y, or is y: by first position; "equal positions go by block, then number".
unfoldable pub not_after : Tables → Kind → ℕ → ℕ → Bool
not_after t κ x y = ltb (get_or (t.keys κ) x 0) (get_or (t.keys κ) y 0) || (eqb (get_or (t.keys κ) x 0) (get_or (t.keys κ) y 0) && leb x y)

-- The first place of x's component in its table. Each point is one alone.
unfoldable pub class_of : Tables → Kind → ℕ → ℕ
class_of t Face x = root (t.links Face) x
class_of t Curve x = root (t.links Curve) x
class_of t Point x = x

-- x and y belong to one component.
unfoldable pub is_one : Tables → Kind → ℕ → ℕ → Bool
is_one t κ x y = eqb (class_of t κ x) (class_of t κ y)

-- y comes no later than all of x's component, of n.
unfoldable pub leads : Tables → Kind → ℕ → ℕ → ℕ → Bool
leads t κ n y x = all_of (λ z. not (is_one t κ x z) || not_after t κ y z) (consecutive 0 n)

-- The first one of each component.
unfoldable pub heads : Tables → Kind → ℕ → List ℕ
heads t κ n = keep (λ x. leads t κ n x x) (consecutive 0 n)

-- The number of x's component: how many first ones come no later than it.
unfoldable pub rank : Tables → Kind → ℕ → ℕ → ℕ
rank t κ n x = length (keep (λ y. leads t κ n y x) (heads t κ n))

-- The first one of the component with number i.
unfoldable pub head_of : Tables → Kind → ℕ → ℕ → ℕ
head_of t κ n i = get_or (keep (λ x. eqb (rank t κ n x) i) (heads t κ n)) 0 0

-- Its row: a curve's "four face numbers, ascending, then zeros".
unfoldable pub row_at : Tables → Kind → ℕ → List ℕ
row_at t κ x = tabulate (width κ) (λ i. get_or (t.rows κ) (width κ * x + i) 0)

-- A face in a curve's row, by its final number.
unfoldable pub final_face : Tables → ℕ → ℕ
final_face t f = cond (eqb f 0) 0 (get_or (t.numbers Face) (f - 1) 0)

-- The row that the closed table gets.
unfoldable pub row_final : Tables → Kind → ℕ → List ℕ
row_final t Face x = row_at t Face x
row_final t Curve x = pad_to 4 (sort_ascending (keep (λ n. not (eqb n 0)) (map (final_face t) (row_at t Curve x))))
row_final t Point x = row_at t Point x

-- The tables of one kind with its n components numbered.
pub record NumberedKind (s t : State) (κ : Kind) (n : ℕ) : Type 0 where
  pub total : t.job.numbered κ ≡ length (heads t.tables κ n)
  pub numbers : t.tables.numbers κ ≡ overlay (s.tables.numbers κ) 0 (rank t.tables κ n) n
  pub firsts : take (t.job.numbered κ) (t.tables.firsts κ) ≡ tabulate (t.job.numbered κ) (λ i. first_at t.tables κ (head_of t.tables κ n (suc i)))
  pub listed : take (width κ * t.job.numbered κ) (t.tables.listed κ)
      ≡ tabulate (width κ * t.job.numbered κ) (λ i. get_or (row_final t.tables κ (head_of t.tables κ n (suc (i / width κ)))) (i % width κ) 0)
  pub firsts_long : length (t.tables.firsts κ) ≡ length (s.tables.firsts κ)
  pub listed_long : length (t.tables.listed κ) ≡ length (s.tables.listed κ)

-- ---- crossing

-- "Crossing": curves are joined at point cells; the last one numbers faces and curves. Links of faces keep their classes.
pub record CrossingDone (s : State) (b : ℕ) (m : List ℕ) (t : State) : Type 0 where
  pub step : Ticked s t (cross b m) (crossing_step b)
  pub blocks : t.tables.blocks ≡ s.tables.blocks
  pub faces : Rooted (s.tables.links Face) (t.tables.links Face) (root (s.tables.links Face))
  pub curves : Merged (s.tables.links Curve) (t.tables.links Curve) (AtCrossing s.job.told.cutting s.tables b m)
  pub found : (κ : Kind) → KeptFound s t κ
  -- "After the last block, faces and curves are numbered by first cell in the volume."
  pub last : t.job.stage ≡ Points → NumberedKind s t Face (s.job.sofar Face) × NumberedKind s t Curve (s.job.sofar Curve)
  pub before : t.job.stage ≢ Points → KeptNumbers s t Face × KeptNumbers s t Curve
  pub points : KeptNumbers s t Point

-- ---- point

-- "Point": the points found are added; the last one numbers them and closes the job.
pub record PointDone (s : State) (b : ℕ) (m : List ℕ) (t : State) : Type 0 where
  pub step : Ticked s t (point b m) (point_step b)
  pub blocks : t.tables.blocks ≡ s.tables.blocks
  pub face_links : t.tables.links Face ≡ s.tables.links Face
  pub curve_links : t.tables.links Curve ≡ s.tables.links Curve
  pub faces : KeptFound s t Face × KeptNumbers s t Face
  pub curves : KeptFound s t Curve × KeptNumbers s t Curve
  -- the block's points stand after those found before
  pub keys : t.tables.keys Point
      ≡ overlay (s.tables.keys Point) (s.job.sofar Point)
      (λ i. key_of (embed s.job.told.cutting b (get_or (point_cells s.job.told.cutting s.tables b m) i 0)) b) (adds s (point b m) Point)
  pub rows : t.tables.rows Point
      ≡ overlay (s.tables.rows Point) (6 * s.job.sofar Point)
      (λ i. get_or (final_row s.job.told.cutting s.tables b m (get_or (point_cells s.job.told.cutting s.tables b m) (i / 6) 0)) (i % 6) 0)
      (6 * adds s (point b m) Point)
  -- "Closed: points are numbered by position."
  pub last : t.job.stage ≡ Closed → NumberedKind s t Point (t.job.sofar Point)
  pub before : t.job.stage ≢ Closed → KeptNumbers s t Point

-- ---- look and row reading

-- Bisection in n places from lo on: the first place of an ascending list whose entry is not below v.
unfoldable pub bisect : ℕ → List ℕ → ℕ → ℕ → ℕ → ℕ
bisect zero xs lo n v = lo
bisect (suc f) xs lo n v =
    cond (eqb n 0) lo (cond (ltb (get_or xs (lo + n / 2) 0) v) (bisect f xs (suc (lo + n / 2)) (n - suc (n / 2)) v) (bisect f xs lo (n / 2) v))

-- The number of the point at position v, 0 where bisection finds none.
unfoldable pub point_number : List ℕ → ℕ → ℕ → ℕ
point_number xs n v = cond (ltb (bisect n xs 0 n v) n && eqb (get_or xs (bisect n xs 0 n v) 0) v) (suc (bisect n xs 0 n v)) 0

-- "The final number of a cell .., named by its place in the volume (0 where inactive in the volume, the code at a voxel)": by the map,
-- but for a point, which goes by the job's points.
unfoldable pub cell_number : Cutting → Tables → ℕ → ℕ → List ℕ → Triple → ℕ → ℕ
cell_number k t points b m c p =
    cond (eqb (order (block_extents k b) p) 3) (get_or m p 0)
    (cond (eqb (order (block_extents k b) p) 2) (final_of t Face b (get_or m p 0))
    (cond (eqb (order (block_extents k b) p) 1) (final_of t Curve b (get_or m p 0)) (point_number (t.firsts Point) points (index (sides k.extents) c))))

-- What a look gives: the cell by its position in the block.
unfoldable pub looked_up : State → ℕ → List ℕ → Triple → ℕ
looked_up s b m c = cell_number s.job.told.cutting s.tables (s.job.numbered Point) b m c (local s.job.told.cutting b c)

-- "The row of one face, curve or point", "as a part of the lent tables".
unfoldable pub row_taken : State → Kind → ℕ → List ℕ
row_taken s κ n = take (width κ) (drop (width κ * (n - 1)) (s.tables.listed κ))

-- ---- one call

-- An accepted call: what it answers, and what it leaves.
abbrev pub Done : State → Call → Answer → State → Type 0
Done s (enrol b m) a t = (a ≡ answer 0 0 []) × EnrolDone s b m t
Done s (join b c m n) a t = (a ≡ answer 0 0 []) × SeamDone s b c m n t
Done s (cross b m) a t = (a ≡ answer 0 0 []) × CrossingDone s b m t
Done s (point b m) a t = (a ≡ answer 0 0 []) × PointDone s b m t
Done s (look b m c) a t = (a ≡ answer 0 (looked_up s b m c) []) × (t ≡ s)
Done s (reading κ n) a t = (a ≡ answer 0 0 (row_taken s κ n)) × (t ≡ s)

-- One call, whatever it is handed. "A refusal returns its number, a job handed in as it was, every other field 0 or empty, and changes no
-- lent slice and no job."
pub record CallStep (s : State) (c : Call) (a : Answer) (t : State) : Type 0 where
  pub told : a.refusal ≡ refusal s c
  pub declined : refusal s c ≢ 0 → (a ≡ answer (refusal s c) 0 []) × (t ≡ s)
  pub accepted : refusal s c ≡ 0 → Done s c a t
