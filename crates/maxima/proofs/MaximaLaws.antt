-- The largest block: no block has more components of an order than cells, and one whose voxels all have different numbers has as many.
-- Assumes nothing.
use mathlib.Core.Path.{◌≡◌, refl, sym, ap, ◌∙◌, subst}
use mathlib.Core.Bool.{Bool, true, false, cond}
use mathlib.Core.List.{List, [], ◌∷◌}
use Prim.Native.Nat.{ℕ, zero, suc, ◌+◌, ◌-◌, ◌*◌, ◌≤◌, ◌<◌}
use native.Mathlib.Omega.{arith}
use lib.Dec.{eqb}
use lib.ListN.{get_or}
use borrow.Author.Tests.{eqb-true, eq-eqb}
use Rattle.lists.proofs.Cases.{and_first, and_both}
use Rattle.lists.proofs.Lists.{get_or_tabulate}
use Rattle.closure.specs.Joined.{rep}
use Rattle.closure.specs.Numbered.{count_below, leader}
use Rattle.closure.proofs.Classes.{rep_low}
use Rattle.closure.proofs.Numbers.{count_le, label_root}
use Rattle.refusals.specs.Refusals.{number, table, first, given_by, stands_in, listed_numbers}
use Rattle.cells.specs.Box.{volume}
use Rattle.cells.specs.declared.Triple.{Triple}
use Rattle.cells.specs.Extents.{Sized, off_size}
use Rattle.cells.specs.Grid.{cells, order, voxel, voxel_cell}
use Rattle.cells.specs.Row.{active, occupied}
use Rattle.cells.proofs.GridLaws.{voxel_inside, cell_voxel}
use Rattle.extents.proofs.SizeLaws.{size_fits}
use Rattle.labels.specs.Components.{largest}
use Rattle.labels.specs.OrderCounts.{cells_of_order}
use Rattle.labels.specs.Number.{edges, active_of, number as number_named, map_down, labels}
use Rattle.labels.proofs.NumberLaws.{rep_leaders}
use Rattle.labels.proofs.LabelLaws.{labels_numbering, shared_row, label_at, row_over}
use Rattle.labels.proofs.CountLaws.{largest_leaders, count_down}
use Rattle.labels.proofs.OrderCounts.{count_cells}
use Rattle.counts.specs.Counts.{Counted}
use Rattle.maxima.specs.Maxima.{DifferentCodes, IsMost, counted_codes, declines, refusal_of, accepted, refused, most_components}
use Rattle.maxima.proofs.Apart.{DifferentNumbers, all_active, row_apart}

module _ (e : Triple) (codes : List ℕ) where
  -- the map that order j is numbered over
  abbrev over : ℕ → List ℕ
  over j = map_down e codes (2 - j)

  -- a cell is the first of a component of order j
  abbrev leads : ℕ → ℕ → Bool
  leads j = leader (rep (edges e (over j) j)) (active_of e (over j) j)

  -- a cell has order j
  abbrev has_order : ℕ → ℕ → Bool
  has_order j p = eqb (order e p) j

  -- the largest number of an order is how many first cells it has
  count_leaders : (j : ℕ) → j < 3 → count_below (leads j) (cells e) ≡ largest e (labels e codes) j
  unfolding map_down
  count_leaders j h =
      let twice : 2 - (2 - j) ≡ j = omega arith in
      subst (λ (i : ℕ). count_below (leader (rep (edges e (over j) i)) (active_of e (over j) i)) (cells e) ≡ largest e (labels e codes) i) twice
      (largest_leaders e (over j) (2 - (2 - j)) ∙ count_down e codes (2 - j) (omega arith))

  -- "No block of that size exceeds the three numbers."
  pub most : (j : ℕ) → j < 3 → largest e (labels e codes) j ≤ cells_of_order e j
  unfolding leader active_of
  most j h =
      let cell-of : (p : ℕ) → p < cells e → leads j p ≡ true → has_order j p ≡ true
      = λ p l t. and_first (has_order j p) (active e (over j) p) (and_first (active_of e (over j) j p) (eqb (rep (edges e (over j) j) p) p) t) in
      omega (arith, count_leaders j h, count_cells e j, count_le (leads j) (has_order j) (cells e) cell-of)

  -- ---- pairwise different numbers

  -- from one order to the one below
  different_next : (j : ℕ) → j < 3 → DifferentNumbers e (labels e codes) (suc j) → DifferentNumbers e (labels e codes) j
  different_next j lj D =
      let act = all_active e (labels e codes) j lj D in
      record {
        apart = λ p q h k o l s.
            row_apart e (labels e codes) j lj D p q h k o l
            (shared_row e codes p q h k (o ∙ sym l) (act p h o) (act q k l) s);
      }

  different_down : (k j : ℕ) → k + j ≡ 3 → DifferentNumbers e (labels e codes) 3 → DifferentNumbers e (labels e codes) j
  different_down zero j s D = subst (DifferentNumbers e (labels e codes)) (omega arith) D
  different_down (suc k) j s D = different_next j (omega arith) (different_down k (suc j) (omega arith) D)

  -- every cell of the order is then the first of its component
  all_lead : (p : ℕ) → p < cells e → order e p < 3 → DifferentNumbers e (labels e codes) 3 → leads (order e p) p ≡ true
  unfolding leader active_of active number_named
  all_lead p h l D =
      let j = order e p in
      let f : ℕ → ℕ = rep (edges e (over j) j) in
      let act : ℕ → Bool = active_of e (over j) j in
      let H = rep_leaders e (over j) j in
      let a : act p ≡ true
      = and_both (eqb j j) (active e (over j) p) (eq-eqb j j refl)
      (ap occupied (row_over e codes p h l) ∙ all_active e (labels e codes) j l (different_down (2 - j) (suc j) (omega arith) D) p h refl) in
      let o : order e (f p) ≡ j = eqb-true (order e (f p)) j (and_first (eqb (order e (f p)) j) (active e (over j) (f p)) (H.actives p a)) in
      let k : f p < cells e = omega (arith, rep_low (edges e (over j) j) p) in
      let s : get_or (labels e codes) p 0 ≡ get_or (labels e codes) (f p) 0
      = label_at e codes p h l ∙ label_root f act H p a ∙ sym (label_at e codes (f p) k (omega arith) ∙ ap (λ (i : ℕ). number_named e (over i) i (f p)) o) in
      and_both (act p) (eqb (f p) p) a (eq-eqb (f p) p (sym ((different_down (3 - j) j (omega arith) D).apart p (f p) h k refl o s)))

  -- Numbers at the voxels that all differ reach the three numbers.
  pub numbers_reach : DifferentNumbers e (labels e codes) 3 → (j : ℕ) → j < 3 → largest e (labels e codes) j ≡ cells_of_order e j
  numbers_reach D j lj =
      let first_of : (p : ℕ) → p < cells e → has_order j p ≡ true → leads j p ≡ true
      = λ p h t. let o = eqb-true (order e p) j t in subst (λ (i : ℕ). leads i p ≡ true) o (all_lead p h (omega arith) D) in
      omega (arith, most j lj, count_leaders j lj, count_cells e j, count_le (has_order j) (leads j) (cells e) first_of)

  -- Codes that all differ are numbers at the voxels that all differ.
  pub different_codes : DifferentCodes e codes → DifferentNumbers e (labels e codes) 3
  different_codes D = record {
    apart = λ p q h k o l s.
        let N = labels_numbering e codes in
        let v : voxel e p ≡ voxel e q
        = D.apart (voxel e p) (voxel e q) (voxel_inside e p h) (voxel_inside e q k) (sym (N.voxels p h o) ∙ s ∙ N.voxels q k l) in
        sym (cell_voxel e p h o) ∙ ap (voxel_cell e) v ∙ cell_voxel e q k l;
  }

-- The request's statement, for all extents and each order: the number of cells of an order is the most components that it can have.
pub largest_block : (e : Triple) (j : ℕ) → j < 3 → IsMost e j (cells_of_order e j)
largest_block e j h = record { bound = λ codes. most e codes j h; reached = λ codes D. numbers_reach e codes (different_codes e codes D) j h }

-- The codes 1, 2, 3, .. all differ.
pub counted_different : (e : Triple) → DifferentCodes e (counted_codes e)
unfolding counted_codes
counted_different e = record { apart = λ v w h k s. omega (arith, get_or_tabulate (volume e) suc v h, get_or_tabulate (volume e) suc w k) }

-- No other number is the most.
pub most_only : (e : Triple) (j n k : ℕ) → IsMost e j n → IsMost e j k → n ≡ k
most_only e j n k M N = sym (M.reached (counted_codes e) (counted_different e)) ∙ N.reached (counted_codes e) (counted_different e)

-- ---- the public entry

-- the refusal as a test
refusal_is : (e : Triple) → refusal_of e ≡ cond (off_size 64 e) 1 0
unfolding refusal_of given_by first table number stands_in declines
refusal_is e = refl

-- The numbers that `most_components` lists.
pub most_listed : (e : Triple) → listed_numbers (declines e) ≡ 1 ∷ []
unfolding listed_numbers declines number
most_listed e = refl

-- the answer from its seven products
pub accepted_is : (e : Triple) {f g h k l m n : ℕ} → f ≡ (e.x - 1) * e.y * e.z → g ≡ e.x * (e.y - 1) * e.z → h ≡ e.x * e.y * (e.z - 1)
    → k ≡ e.x * (e.y - 1) * (e.z - 1) → l ≡ (e.x - 1) * e.y * (e.z - 1) → m ≡ (e.x - 1) * (e.y - 1) * e.z
    → n ≡ (e.x - 1) * (e.y - 1) * (e.z - 1)
    → record { refusal = 0; faces = f + g + h; curves = k + l + m; points = n } ≡ accepted e
unfolding accepted cells_of_order
accepted_is e f g h k l m n = rw (f, g, h, k, l, m, n)

-- Extents from 1 to 64 are accepted, any others refused with 1.
pub most_accepted : (e : Triple) → off_size 64 e ≡ false → most_components e ≡ accepted e
unfolding most_components
most_accepted e t = let z : refusal_of e ≡ 0 = refusal_is e ∙ rw t in rw z

pub most_refused : (e : Triple) → off_size 64 e ≡ true → most_components e ≡ refused 1
unfolding most_components
most_refused e t = let z : refusal_of e ≡ 1 = refusal_is e ∙ rw t in rw z

-- "For every extent from 1 to 64 .. the service answers with them": from the promise of `most_components`, what it answers is the most.
pub answer_most : (e : Triple) → Sized 64 e → (s : Counted) → s ≡ most_components e → (s.refusal ≡ 0) × IsMost e 2 s.faces × IsMost e 1 s.curves × IsMost e 0 s.points
unfolding accepted
answer_most e z s promise =
    rw (promise ∙ most_accepted e (size_fits 64 64 e (omega arith) z)) (refl, largest_block e 2 (omega arith), largest_block e 1 (omega arith), largest_block e 0 (omega arith))
