-- The cells that are read from a block, by what the code has of it.
-- Assumes nothing.
use mathlib.Core.Path.{◌≡◌, sym, ◌∙◌}
use mathlib.Core.Bool.{Bool, true, false, ◌&&◌, true≢false}
use mathlib.Core.List.{List}
use Prim.Native.Nat.{ℕ, ◌<◌}
use native.Mathlib.Omega.{arith}
use lib.Dec.{ltb}
use borrow.Author.Tests.{ltb-true, lt-ltb}
use Rattle.lists.specs.Lists.{consecutive, some_of}
use Rattle.lists.proofs.Cases.{by_test, and_first}
use Rattle.lists.proofs.Lists.{consecutive_out}
use Rattle.cells.specs.declared.Triple.{Triple}
use Rattle.cutting.specs.Cutting.{Cutting, blocks, good_cut}
use Rattle.blocks.specs.Blocks.{cut_by, AnyExtents, Tells, has_in}
use Rattle.blocks.specs.declared.Block.{Block}
use Rattle.blocks.specs.declared.Cuts.{Cuts}
use Rattle.judge.specs.declared.Entry.{Entry}
use Rattle.judge.specs.Judge.{entry_of}
use Rattle.lowest.specs.Lowest.{starts, AnyDepth, own_in}
use Rattle.lowest.proofs.PlaceLaws.{own_in_lowest}
use Rattle.cell_calls.specs.Cells.{CellLists, cell_count, cell_at, all_in_grid, read_from, is_needed}
use Rattle.cell_calls.proofs.NeededLaws.{list_inside, needed_block}
use Rattle.reading_cells.specs.declared.Source.{Source}
use Rattle.reading_cells.specs.Inner.{is_own, ReadsFrom, Placed}
use Rattle.reading_cells.proofs.LoopLaws.{some_alike}

-- What `source_of` puts together.
pub source_is : (cuts : Cuts) (table : List ℕ) (b : ℕ) (r : Block) (s : Triple) (d : Entry) → AnyExtents cuts (λ k. Tells k b r) → AnyDepth cuts.x.now cuts.y.now (λ k. s ≡ starts k b) → d ≡ entry_of table b
    → AnyExtents cuts (λ k. ReadsFrom k table b (record { block = r; start = s; entry = d }))
source_is cuts table b r s d T S E e = record { block = T e; start = S e cuts.z.now; entry = E }

-- A cell that is read from the block is one of its cells.
pub own_has : (f : Source) (c : Triple) (t : Bool) → t ≡ is_own f c → t ≡ true → has_in f.block c ≡ true
unfolding is_own own_in
own_has f c t e q = and_first (has_in f.block c) _ (sym e ∙ q)

-- ---- the blocks that cells are read from

module _ (k : Cutting) (table : List ℕ) (b : ℕ) (f : Source) (F : ReadsFrom k table b f) (l : CellLists) (P : Placed k l b) where
  -- It is read from the block exactly where the block is the lowest-numbered one that has it.
  pub own_read : (i : ℕ) → i < cell_count l → is_own f (cell_at l i) ≡ read_from k l b i
  unfolding is_own read_from
  own_read i h = rw F.start (own_in_lowest k P.good b P.there f.block F.block (cell_at l i) (list_inside k.extents l P.inside i h))

  pub some_needed : some_of (λ i. is_own f (cell_at l i)) (consecutive 0 (cell_count l)) ≡ is_needed k l b
  unfolding is_needed
  some_needed = some_alike _ _ (consecutive 0 (cell_count l)) (λ i m. own_read i (omega (arith, consecutive_out 0 (cell_count l) m)))

-- ---- the ways of `placed`

module _ (e : Triple) (cuts : Cuts) (l : CellLists) (b : ℕ) (good : good_cut (cut_by e cuts) ≡ true) (t : Bool) (h : t ≡ all_in_grid e l) where
  abbrev k : Cutting
  k = cut_by e cuts

  abbrev Places : Bool → Type 0
  Places r = r ≡ (all_in_grid e l && is_needed k l b)

  pub place_outside : t ≡ false → Places false
  place_outside q = rw (sym h ∙ q)

  module _ (q : t ≡ true) (u : Bool) (g : AnyExtents cuts (λ k. u ≡ ltb b (blocks k))) where
    all_inside : all_in_grid e l ≡ true
    all_inside = sym h ∙ q

    pub place_no_block : u ≡ false → Places false
    place_no_block p =
        rw all_inside
        (by_test (is_needed k l b)
        (λ n. absurd (true≢false (sym (lt-ltb b (blocks k) (needed_block k l b good all_inside n)) ∙ sym (g e) ∙ p)))
        (λ n. sym n))

    pub place_some : u ≡ true → (table : List ℕ) (f : Source) → AnyExtents cuts (λ k. ReadsFrom k table b f) → (r : Bool) → r ≡ some_of (λ i. is_own f (cell_at l i)) (consecutive 0 (cell_count l)) → Places r
    place_some p table f F r d =
        rw all_inside
        (d ∙ some_needed k table b f (F e) l (record { good = good; there = ltb-true b (blocks k) (sym (g e) ∙ p); inside = all_inside }))
