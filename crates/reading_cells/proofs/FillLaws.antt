-- The ways of a filling.
-- Assumes nothing.
use mathlib.Core.Path.{◌≡◌, refl, sym, ap, ◌∙◌}
use mathlib.Core.Bool.{Bool, true, false, not, cond, ◌&&◌, true≢false}
use mathlib.Core.List.{List}
use Prim.Native.Nat.{ℕ, ◌≤◌}
use native.Mathlib.Omega.{arith}
use lib.Dec.{eqb}
use lib.ListN.{length}
use Rattle.std.specs.Prelude.{Result, Ok, Err, IsErr, IsErrAnd}
use Rattle.refusals.specs.declared.Refusal.{Refusal}
use Rattle.refusals.specs.Refusals.{number, number_of}
use Rattle.refusals.proofs.RefusalLaws.{number_positive}
use Rattle.cells.specs.declared.Triple.{Triple}
use Rattle.blocks.specs.declared.Cuts.{Cuts}
use Rattle.reading_cell.specs.declared.LookupTables.{LookupTables}
use Rattle.reading_cell.specs.Inner.{lent_in}
use Rattle.lists.specs.Lists.{consecutive, tabulate, all_of}
use Rattle.lists.proofs.Cases.{and_first, and_second}
use Rattle.lists.proofs.Lists.{consecutive_in}
use Rattle.lists.proofs.Tests.{all_out}
use Rattle.cells.specs.Box.{triple}
use Rattle.cells.specs.Extents.{Sized}
use Rattle.cells.specs.Grid.{cells, sides}
use Rattle.cutting.specs.Cutting.{Cutting, blocks, block_extents, good_cut, most_blocks, FewBlocks}
use Rattle.joiner.specs.Job.{Closed, State, Tables, lengths_fit}
use Rattle.joiner.specs.Calls.{look}
use Rattle.joiner.specs.Declines.{lent_to, tallies_fit}
use Rattle.blocks.specs.Blocks.{cut_by, AnyExtents, size_of}
use Rattle.job.specs.declared.Job.{Job}
use Rattle.job.specs.JobState.{AnyCuts, AnyTables, job_of, job_by, state_by}
use Rattle.job.specs.Lent.{no_tables}
use Rattle.extents.proofs.SizeLaws.{sized_of}
use Rattle.judge.specs.declared.CallName.{CallName}
use Rattle.judge.specs.declared.Lengths.{Lengths}
use Rattle.judge.specs.Judge.{first_refusal, opened_of, entries_of, lengths_of, fits_lengths, entry_of, map_judged, map_stands_in, lent_by}
use Rattle.judge.proofs.JudgeLaws.{refused_first, passed_first, in_two, few_of, count_few, block_sized, stands_is, lent_is, opened_passed}
use Rattle.cell_calls.specs.Cells.{CellLists, cell_count, cell_at, in_grid, all_in_grid, is_needed}
use Rattle.cell_calls.specs.Calls.{fill, cell_answer, lengths_one}
use Rattle.cell_calls.specs.Declines.{cell_refusal}
use Rattle.cell_calls.specs.Outcomes.{CellStep}
use Rattle.cell_calls.proofs.NeededLaws.{needed_block}
use Rattle.cell_calls.proofs.AnswerLaws.{CellPassed, cell_passed, one_length, few_cells, refused_is, done_is}
use Rattle.judge_cells.specs.Tests.{AnyTray, placed_of, late_of}
use Rattle.judge_cells.proofs.TestLaws.{refusal_placed}
use Rattle.reading_cells.specs.declared.Source.{Source}
use Rattle.reading_cells.specs.Inner.{lent_over, ReadsFrom, Placed, Bounded}
use Rattle.reading_cells.proofs.AnswerLaws.{standing, filling, all_stand_is, answers_are}

-- ---- the ways of `judged`

-- what the inner calls require
module _ (e : Triple) (cuts : Cuts) (l : CellLists) (b : ℕ) (P : Placed (cut_by e cuts) l b) where
  pub placed_few : FewBlocks cuts.x.now cuts.y.now cuts.z.now
  placed_few = few_of _ P.good

  module _ (table : List ℕ) (f : Source) (F : AnyExtents cuts (λ k. ReadsFrom k table b f)) where
    pub placed_sized : Sized 64 (size_of f.block)
    placed_sized = block_sized _ P.good b P.there f.block (F e).block

    pub placed_fits : (i : ℕ) → AnyExtents cuts (λ k. i ≡ blocks k) → (i ≤ most_blocks) × Sized 64 (size_of f.block)
    placed_fits i c = (count_few _ P.good i (c e), placed_sized)

-- one length, and the rest of the lengths
fits_apart : (a b c : Bool) → a ≡ true → ((a && b) && c) ≡ (b && c)
fits_apart true b c e = refl
fits_apart false b c e = absurd (true≢false (sym e))

module _ (j : Job) (cuts : Cuts) (w : LookupTables) (l : CellLists) (b : ℕ) (m : List ℕ) (places : ℕ) where
  abbrev k : Cutting
  k = (job_by j cuts).told.cutting

  abbrev state_with : Tables → State
  state_with t = state_by j cuts (lent_over t w)

  abbrev Late : ℕ → Type 0
  Late r = AnyTables (λ t. AnyTray places (λ v. r ≡ late_of (state_with t) (fill l b m v)))

  abbrev all_stand : Source → Bool
  all_stand f = all_of (standing j f w.faces.now w.curves.now m l) (consecutive 0 (cell_count l))

  module _ (P : Placed k l b) (o : Bool) (e : o ≡ lengths_one (length l.xs) (length l.ys) (length l.zs) places) where
    pub late_6 : o ≡ false → Late 6
    unfolding late_of
    late_6 q t v h = rw (h, sym e ∙ q)

    module _ (q : o ≡ true) (f : Source) (F : AnyExtents cuts (λ k. ReadsFrom k w.blocks.now b f)) (z : Lengths) (Z : z ≡ lengths_of (lent_in w))
        (i : ℕ) (c : AnyExtents cuts (λ k. i ≡ blocks k)) (u : Bool) (U : u ≡ fits_lengths CallName.Lookup i (size_of f.block) (entries_of j) z (length m)) where
      abbrev R : ReadsFrom k w.blocks.now b f
      R = F (triple j.nx j.ny j.nz)

      abbrev mapped : ℕ
      mapped = map_judged (job_by j cuts) (size_of f.block) f.entry u m

      -- 6 and 8 in the order of the code: the lengths, tallies and map, then the numbers that are handed out
      late_is : (t : Tables) (v : List ℕ) → length v ≡ places → late_of (state_with t) (fill l b m v) ≡ first_refusal mapped (cond (not (all_stand f)) 8 0)
      unfolding late_of fits_lengths map_judged
      late_is t v h =
          let one : lengths_one (length l.xs) (length l.ys) (length l.zs) (length v) ≡ true = ap (lengths_one (length l.xs) (length l.ys) (length l.zs)) h ∙ sym e ∙ q in
          let lent : lengths_fit (lent_to (job_by j cuts).told (state_with t).tables (look b m (cell_at l 0))) ≡ lengths_fit (lent_by CallName.Lookup (blocks k) (entries_of j) z) =
          ap lengths_fit (lent_is (job_by j cuts).told (state_with t).tables (look b m (cell_at l 0))) ∙ ap (λ (x : Lengths). lengths_fit (lent_by CallName.Lookup (blocks k) (entries_of j) x)) (sym Z) in
          let fit : ((lengths_one (length l.xs) (length l.ys) (length l.zs) (length v) && eqb (length m) (cells (block_extents k b))) && lengths_fit (lent_to (job_by j cuts).told (state_with t).tables (look b m (cell_at l 0)))) ≡ u =
          fits_apart _ _ _ one ∙ rw (lent, ← R.block.size, ← c (triple j.nx j.ny j.nz)) (sym U) in
          rw (fit, stands_is (state_with t) (block_extents k b) b m, ← all_stand_is j cuts w t b m f l R P)
          (in_two u (tallies_fit (job_by j cuts)) (map_stands_in (block_extents k b) (entry_of w.blocks.now b) j.entries.faces j.entries.curves m) (all_stand f) 0
          ∙ ap (λ (x : ℕ). first_refusal x (cond (not (all_stand f)) 8 0)) (rw (← R.entry, ← R.block.size) refl))

      pub late_map : (r : Refusal) → AnyCuts (λ cx cy cz. number r ≡ map_judged (job_of j cx cy cz) (size_of f.block) f.entry u m) → Late (number r)
      late_map r N t v h = rw (late_is t v h) (refused_first r _ _ (N cuts.x.now cuts.y.now cuts.z.now))

      pub late_last : AnyCuts (λ cx cy cz. 0 ≡ map_judged (job_of j cx cy cz) (size_of f.block) f.entry u m) → (x : Bool) → x ≡ all_stand f → (r : ℕ) → r ≡ cond (not x) 8 0 → Late r
      late_last N x y r p t v h = rw (late_is t v h, ← y) (passed_first _ _ r (N cuts.x.now cuts.y.now cuts.z.now) p)

  -- ---- the ways of `refuse`

  abbrev Refuses : ℕ → Type 0
  Refuses r = AnyTables (λ t. AnyTray places (λ v. r ≡ cell_refusal (state_with t) (fill l b m v)))

  pub fill_first : (r : Refusal) → number r ≡ opened_of (job_by j cuts) Closed → Refuses (number r)
  fill_first r e t v h = rw (refusal_placed (state_with t) (fill l b m v)) (refused_first r _ _ e)

  module _ (e : 0 ≡ opened_of (job_by j cuts) Closed) where
    -- what `placed` requires
    pub fill_good : good_cut k ≡ true
    fill_good = (opened_passed (job_by j cuts) Closed (sym e)).good

    module _ (a : Bool) (f : a ≡ (all_in_grid (triple j.nx j.ny j.nz) l && is_needed k l b)) where
      pub fill_4 : a ≡ false → Refuses 4
      unfolding placed_of
      fill_4 p t v h = rw (refusal_placed (state_with t) (fill l b m v)) (passed_first _ _ 4 e (rw (sym f ∙ p)))

      module _ (p : a ≡ true) where
        both_placed : (all_in_grid (triple j.nx j.ny j.nz) l && is_needed k l b) ≡ true
        both_placed = sym f ∙ p

        -- .. and `judged`
        pub fill_placed : Placed k l b
        fill_placed =
            let inside = and_first (all_in_grid (triple j.nx j.ny j.nz) l) (is_needed k l b) both_placed in
            record { good = fill_good; there = needed_block k l b fill_good inside (and_second (all_in_grid (triple j.nx j.ny j.nz) l) (is_needed k l b) both_placed); inside = inside }

        pub fill_late : (r : ℕ) → Late r → Refuses r
        unfolding placed_of
        fill_late r L t v h = rw (refusal_placed (state_with t) (fill l b m v), both_placed) (passed_first _ _ r e (L t v h))

-- ---- the ways of `fill_cells`

module _ (j : Job) (cuts : Cuts) (w : LookupTables) (l : CellLists) (b : ℕ) (m v : List ℕ) where
  abbrev told_cut : Cutting
  told_cut = (job_by j cuts).told.cutting

  abbrev Steps : ℕ → List ℕ → Type 0
  Steps r u = AnyTables (λ t. CellStep (state_by j cuts (lent_over t w)) (fill l b m v) (cell_answer r 0 u))

  abbrev refuses : ℕ → Type 0
  refuses r = AnyTables (λ t. AnyTray (length v) (λ x. r ≡ cell_refusal (state_by j cuts (lent_over t w)) (fill l b m x)))

  pub filling_refused : (r : Refusal) → refuses (number r) → (x : Result Unit Refusal) → IsErr x × IsErrAnd x (λ q. q ≡ r) → Steps (number_of x) v
  filling_refused r e (Ok y) h t = absurd (true≢false (sym h.0))
  filling_refused r e (Err q) h t =
      refused_is (state_by j cuts (lent_over t w)) (fill l b m v) (number q) (ap number h.1 ∙ e t v refl) (λ z. absurd (omega (arith, number_positive q, z)))

  module _ (e : refuses 0) (f : Source) (F : AnyExtents cuts (λ k. ReadsFrom k w.blocks.now b f)) where
    abbrev here : State
    here = state_by j cuts (lent_in w)

    tested : CellPassed here (fill l b m v)
    tested = cell_passed here (fill l b m v) (sym (e no_tables v refl))

    inside_all : all_in_grid told_cut.extents l ≡ true
    inside_all = and_first (all_in_grid told_cut.extents l) (is_needed told_cut l b) tested.placed

    is_placed : Placed told_cut l b
    is_placed =
        record { good = tested.cut; there = needed_block told_cut l b tested.cut inside_all (and_second (all_in_grid told_cut.extents l) (is_needed told_cut l b) tested.placed); inside = inside_all }

    one_list : lengths_one (length l.xs) (length l.ys) (length l.zs) (length v) ≡ true
    one_list = and_first (lengths_one (length l.xs) (length l.ys) (length l.zs) (length v)) _ tested.lists

    one_each : length v ≡ cell_count l
    one_each = one_length l (length v) one_list

    -- what `fill_answers` requires
    pub filling_bounded : Bounded (triple j.nx j.ny j.nz) f l (length v)
    unfolding all_in_grid
    filling_bounded =
        record {
          sized = sized_of 1024 (triple j.nx j.ny j.nz) tested.on_size;
          small_block = placed_sized (triple j.nx j.ny j.nz) cuts l b is_placed w.blocks.now f F;
          inside = λ i h. all_out (λ i'. in_grid (sides told_cut.extents) (cell_at l i')) (consecutive 0 (cell_count l)) inside_all (consecutive_in 0 (cell_count l) {p = i} (omega arith) (omega (arith, one_each)));
          few = few_cells l (length v) one_list;
        }

    pub filling_done : (u : List ℕ) → u ≡ tabulate (length v) (filling j f w.faces.now w.curves.now w.points.now m l v) → Steps 0 u
    filling_done u d t =
        done_is (state_by j cuts (lent_over t w)) (fill l b m v) 0 (e t v refl) refl (cell_answer 0 0 u)
        (ap (cell_answer 0 0) (d ∙ answers_are j cuts w t b m f l (F (triple j.nx j.ny j.nz)) is_placed v one_each))
