-- Marked blocks are needed ones, and the list of them grows block by block.
-- Assumes nothing.
use mathlib.Core.Path.{◌≡◌, refl, sym, ap, ◌∙◌}
use mathlib.Core.Bool.{Bool, true, false, true≢false}
use mathlib.Core.Logic.{◌≢◌}
use mathlib.Core.List.{List, [], ◌∷◌, ◌++◌, append-nil}
use Prim.Native.Nat.{ℕ, zero, suc, ◌+◌, ◌-◌, ◌≤◌, ◌<◌}
use native.Mathlib.Nat.{zero-add}
use native.Mathlib.Omega.{arith}
use lib.Dec.{eqb}
use lib.ListN.{get_or, length, set, length-set, length-append}
use lib.Seq.{get_or-set_same, get_or-set_other}
use borrow.Author.Tests.{eqb-true, eqb-false}
use Rattle.lists.specs.Lists.{consecutive, keep, laid}
use Rattle.lists.proofs.Cases.{by_test}
use Rattle.lists.proofs.Lists.{consecutive_out, consecutive_split, keep_append}
use Rattle.lists.proofs.Laid.{laid_more, laid_none}
use Rattle.lists.proofs.Tests.{keep_same}
use Rattle.cutting.specs.Cutting.{Cutting, blocks}
use Rattle.joiner.specs.Stages.{lowest_block}
use Rattle.cell_calls.specs.Cells.{CellLists, cell_count, cell_at, is_needed, needed_blocks}
use Rattle.cell_calls.proofs.NeededLaws.{needed_where, where_needed}
use Rattle.reading_blocks.specs.Marks.{marked_by, is_marked, marked_blocks}

-- ---- the marks

module _ (k : Cutting) (l : CellLists) (marks : List Bool) where
  pub marked_long : (n : ℕ) → length (marked_by k l n marks) ≡ length marks
  unfolding marked_by
  marked_long zero = refl
  marked_long (suc n) = length-set (marked_by k l n marks) (lowest_block k (cell_at l n)) true ∙ marked_long n

  module _ (clear : (b : ℕ) → get_or marks b false ≡ false) (b : ℕ) where
    -- a block is marked where it is the lowest-numbered one of a cell, and nowhere else
    mark_where : (n : ℕ) → is_marked (marked_by k l n marks) b ≡ true → (i : ℕ) × (i < n) × (lowest_block k (cell_at l i) ≡ b)
    unfolding marked_by is_marked
    mark_where zero t = absurd (true≢false (sym t ∙ clear b))
    mark_where (suc n) t =
        by_test (eqb (lowest_block k (cell_at l n)) b) (λ e. (n, omega arith, eqb-true _ _ e))
        (λ e.
        let o : b ≢ lowest_block k (cell_at l n) = λ q. eqb-false _ _ e (sym q) in
        let w = mark_where n (rw (get_or-set_other (marked_by k l n marks) (lowest_block k (cell_at l n)) b true false o) at t) in
        (w.0, omega (arith, w.1), w.2))

    where_mark : b < length marks → (n i : ℕ) → i < n → lowest_block k (cell_at l i) ≡ b → is_marked (marked_by k l n marks) b ≡ true
    unfolding marked_by is_marked
    where_mark h zero i g e = absurd (omega arith)
    where_mark h (suc n) i g e =
        by_test (eqb (lowest_block k (cell_at l n)) b)
        (λ q.
        let p : lowest_block k (cell_at l n) ≡ b = eqb-true _ _ q in
        rw (p, get_or-set_same (marked_by k l n marks) b true false (omega (arith, marked_long n))) refl)
        (λ q.
        let o : b ≢ lowest_block k (cell_at l n) = λ p. eqb-false _ _ q (sym p) in
        let d : i ≢ n = λ p. o (sym e ∙ ap (λ (x : ℕ). lowest_block k (cell_at l x)) p) in
        rw (get_or-set_other (marked_by k l n marks) (lowest_block k (cell_at l n)) b true false o) (where_mark h n i (omega arith) e))

    marked_is : b < length marks → is_marked (marked_by k l (cell_count l) marks) b ≡ is_needed k l b
    marked_is h =
        by_test (is_marked (marked_by k l (cell_count l) marks) b)
        (λ t. let w = mark_where (cell_count l) t in t ∙ sym (where_needed k l b w.0 w.1 w.2))
        (λ f.
        by_test (is_needed k l b) (λ t. let w = needed_where k l b t in absurd (true≢false (sym (where_mark h (cell_count l) w.0 w.1 w.2) ∙ f))) (λ g. f ∙ sym g))

  -- The marked blocks are the needed ones.
  pub marked_needed : ((b : ℕ) → get_or marks b false ≡ false) → blocks k ≤ length marks → marked_blocks (marked_by k l (cell_count l) marks) (blocks k) ≡ needed_blocks k l
  unfolding marked_blocks needed_blocks
  marked_needed clear h = keep_same _ _ (consecutive 0 (blocks k)) (λ b m. marked_is clear b (omega (arith, consecutive_out 0 (blocks k) m)))

-- ---- the list of marked blocks

module _ (marks : List Bool) where
  marked_split : (a b : ℕ) → marked_blocks marks (a + b) ≡ marked_blocks marks a ++ keep (is_marked marks) (consecutive a b)
  unfolding marked_blocks
  marked_split a b =
      let from-a : consecutive 0 (a + b) ≡ consecutive 0 a ++ consecutive a b = rw (zero-add a) at (consecutive_split 0 a b) in
      ap (keep (is_marked marks)) from-a ∙ keep_append (is_marked marks) (consecutive 0 a) (consecutive a b)

  marked_more : (b : ℕ) → is_marked marks b ≡ true → marked_blocks marks (b + 1) ≡ marked_blocks marks b ++ (b ∷ [])
  unfolding consecutive
  marked_more b t = marked_split b 1 ∙ rw t refl

  marked_same : (b : ℕ) → is_marked marks b ≡ false → marked_blocks marks (b + 1) ≡ marked_blocks marks b
  unfolding consecutive
  marked_same b t = marked_split b 1 ∙ rw (t, append-nil) refl

  -- there is room for a marked block
  pub marked_room : (b count n : ℕ) → b < count → length (marked_blocks marks count) ≤ n → is_marked marks b ≡ true → length (marked_blocks marks b) < n
  marked_room b count n h g t =
      let rest : ℕ = count - (b + 1) in
      let e : b + 1 + rest ≡ count = omega arith in
      let p : length (marked_blocks marks count) ≡ length (marked_blocks marks (b + 1) ++ keep (is_marked marks) (consecutive (b + 1) rest)) = ap (λ (n : ℕ). length (marked_blocks marks n)) (sym e) ∙ ap length (marked_split (b + 1) rest) in
      omega (arith, p, length-append (marked_blocks marks (b + 1)) (keep (is_marked marks) (consecutive (b + 1) rest)), ap length (marked_more b t), length-append (marked_blocks marks b) (b ∷ []))

  -- ---- the loop

  -- The marked ones of the first b blocks stand in the tray, and the next place is the one after them.
  pub record Listed (t : List ℕ) (b place : ℕ) (u : List ℕ) : Type 0 where
    pub many : place ≡ length (marked_blocks marks b)
    pub is : u ≡ laid 0 (marked_blocks marks b) t
    pub long : length u ≡ length t

  pub listed_none : (t : List ℕ) → Listed t 0 0 t
  unfolding marked_blocks consecutive
  listed_none t = record { many = refl; is = laid_none 0 t (omega arith); long = refl }

  module _ (t u : List ℕ) (b place : ℕ) (L : Listed t b place u) where
    pub listed_more : get_or marks b false ≡ true → place < length u → Listed t (b + 1) (place + 1) (set u place b)
    unfolding is_marked
    listed_more m g =
        let laid_next : set (laid 0 (marked_blocks marks b) t) place b ≡ laid 0 (marked_blocks marks b ++ (b ∷ [])) t =
        rw (zero-add place) at (laid_more 0 place b (marked_blocks marks b) t (sym L.many) (omega (arith, g, L.long))) in
        record {
          many = omega (arith, L.many, ap length (marked_more b m), length-append (marked_blocks marks b) (b ∷ []));
          is = ap (λ (x : List ℕ). set x place b) L.is ∙ laid_next ∙ ap (λ (x : List ℕ). laid 0 x t) (sym (marked_more b m));
          long = length-set u place b ∙ L.long;
        }

    pub listed_same : get_or marks b false ≡ false → Listed t (b + 1) place u
    unfolding is_marked
    listed_same m = record { many = L.many ∙ ap length (sym (marked_same b m)); is = L.is ∙ ap (λ (x : List ℕ). laid 0 x t) (sym (marked_same b m)); long = L.long }

  module _ (t u : List ℕ) (b count place : ℕ) (L : Listed t b place u) (h : length (marked_blocks marks count) ≤ length t) where
    pub listed_room : b < count → get_or marks b false ≡ true → place < length u
    unfolding is_marked
    listed_room g m = omega (arith, L.many, L.long, marked_room b count (length t) g h m)

    pub listed_all : b ≡ count → (place ≡ length (marked_blocks marks count)) × (u ≡ laid 0 (marked_blocks marks count) t)
    listed_all e = (rw (← e) L.many, rw (← e) L.is)

    pub listed_few : b ≡ count → place ≤ length t
    listed_few e = omega (arith, (listed_all e).0)
