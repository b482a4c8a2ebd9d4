-- The blocks that a list of cells is read from.
-- Assumes nothing.
use mathlib.Core.Path.{◌≡◌, refl, ap, subst}
use mathlib.Core.Bool.{Bool, true, false, ◌||◌}
use mathlib.Core.List.{List, [], ◌∷◌}
use Prim.Native.Nat.{ℕ, zero, suc, ◌≤◌, ◌<◌}
use native.Mathlib.Omega.{arith}
use lib.Dec.{eqb, ltb}
use lib.ListN.{length}
use borrow.Author.Tests.{eqb-true, eq-eqb, ne_eqb, ltb-true}
use Rattle.lists.specs.Lists.{consecutive, keep, some_of}
use Rattle.lists.proofs.Cases.{by_test, and_first, and_second}
use Rattle.lists.proofs.Lists.{consecutive_in, consecutive_out, length-consecutive}
use Rattle.lists.proofs.Tests.{all_out, some_where, some_true}
use Rattle.cells.specs.declared.Axis.TheVariants.{X, Y, Z}
use Rattle.cells.specs.declared.Triple.{Triple}
use Rattle.cells.specs.Grid.{sides}
use Rattle.cells.proofs.BoxLaws.{Inside}
use Rattle.cutting.specs.Cutting.{Cutting, blocks, good_cut}
use Rattle.joiner.specs.Stages.{lowest_block}
use Rattle.joiner.proofs.Codes.{lowest_there}
use Rattle.cell_calls.specs.Cells.{CellLists, cell_count, cell_at, in_grid, all_in_grid, read_from, is_needed, needed_blocks}

-- ---- the cells are in the grid

pub grid_inside : (s c : Triple) → in_grid s c ≡ true → Inside s c
unfolding in_grid
grid_inside s c t X = ltb-true _ _ (and_first (ltb c.x s.x) _ t)
grid_inside s c t Y = ltb-true _ _ (and_first (ltb c.y s.y) _ (and_second (ltb c.x s.x) _ t))
grid_inside s c t Z = ltb-true _ _ (and_second (ltb c.y s.y) _ (and_second (ltb c.x s.x) _ t))

pub list_inside : (e : Triple) (l : CellLists) → all_in_grid e l ≡ true → (i : ℕ) → i < cell_count l → Inside (sides e) (cell_at l i)
unfolding all_in_grid
list_inside e l t i h = grid_inside (sides e) (cell_at l i) (all_out (λ j. in_grid (sides e) (cell_at l j)) (consecutive 0 (cell_count l)) t (consecutive_in 0 (cell_count l) (omega arith) (omega arith)))

-- ---- needed blocks

module _ (k : Cutting) (l : CellLists) (b : ℕ) where
  -- A block is needed exactly where some cell is read from it.
  pub needed_where : is_needed k l b ≡ true → (i : ℕ) × (i < cell_count l) × (lowest_block k (cell_at l i) ≡ b)
  unfolding is_needed read_from
  needed_where t =
      let w = some_where (read_from k l b) (consecutive 0 (cell_count l)) t in
      (w.0, omega (arith, consecutive_out 0 (cell_count l) w.1), eqb-true _ _ w.2)

  pub where_needed : (i : ℕ) → i < cell_count l → lowest_block k (cell_at l i) ≡ b → is_needed k l b ≡ true
  unfolding is_needed read_from
  where_needed i h e = some_true (read_from k l b) (consecutive 0 (cell_count l)) (consecutive_in 0 (cell_count l) {p = i} (omega arith) (omega arith)) (eq-eqb _ _ e)

  -- It is then a block that has that cell.
  pub needed_block : good_cut k ≡ true → all_in_grid k.extents l ≡ true → is_needed k l b ≡ true → b < blocks k
  needed_block good t n =
      let w = needed_where n in
      subst (λ (x : ℕ). x < blocks k) w.2 (lowest_there k good (cell_at l w.0) (list_inside k.extents l t w.0 w.1)).0

-- ---- no more blocks than cells

-- one number more to look for is at most one entry more
module _ (q : ℕ → Bool) (v : ℕ) where
  abbrev more : ℕ → Bool
  more b = eqb v b || q b

  past_same : (i n : ℕ) → v < i → length (keep more (consecutive i n)) ≡ length (keep q (consecutive i n))
  unfolding consecutive
  past_same i zero h = refl
  past_same i (suc n) h =
      let e : eqb v i ≡ false = ne_eqb v i (omega arith) in
      by_test (q i) (λ t. rw (e, t) (ap suc (past_same (suc i) n (omega arith)))) (λ t. rw (e, t) (past_same (suc i) n (omega arith)))

  one_more : (i n : ℕ) → length (keep more (consecutive i n)) ≤ suc (length (keep q (consecutive i n)))
  unfolding consecutive
  one_more i zero = omega arith
  one_more i (suc n) =
      by_test (eqb v i)
      (λ e.
      let same = past_same (suc i) n (omega (arith, eqb-true v i e)) in
      by_test (q i) (λ t. rw (e, t) (omega (arith, same))) (λ t. rw (e, t) (omega (arith, same))))
      (λ e. by_test (q i) (λ t. rw (e, t) (omega (arith, one_more (suc i) n))) (λ t. rw (e, t) (one_more (suc i) n)))

module _ (f : ℕ → ℕ) (m : ℕ) where
  -- the numbers below m that are among the values of f at the entries of a list
  abbrev among : List ℕ → ℕ → Bool
  among is b = some_of (λ i. eqb (f i) b) is

  few_among : (is : List ℕ) → length (keep (among is) (consecutive 0 m)) ≤ length is
  few_among [] = omega (arith, none_kept (consecutive 0 m))
    where
      none_kept : (bs : List ℕ) → length (keep (among []) bs) ≡ 0
      none_kept [] = refl
      none_kept (b ∷ bs) = none_kept bs
  few_among (i ∷ is) = omega (arith, one_more (among is) (f i) 0 m, few_among is)

-- The needed blocks are at most as many as the cells.
pub needed_few : (k : Cutting) (l : CellLists) → length (needed_blocks k l) ≤ cell_count l
unfolding needed_blocks is_needed read_from
needed_few k l = omega (arith, few_among (λ i. lowest_block k (cell_at l i)) (blocks k) (consecutive 0 (cell_count l)), length-consecutive 0 (cell_count l))
