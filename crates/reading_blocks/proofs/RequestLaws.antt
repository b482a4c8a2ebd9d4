-- The ways of a request.
-- Assumes nothing.
use mathlib.Core.Path.{◌≡◌, refl, sym, ap, ◌∙◌}
use mathlib.Core.Bool.{Bool, true, false, not, ◌&&◌, cond, true≢false}
use mathlib.Core.List.{List}
use Prim.Native.Nat.{ℕ, zero, suc, ◌+◌, ◌≤◌, ◌<◌}
use native.Mathlib.Numerals.{add-one}
use native.Mathlib.Omega.{arith}
use lib.ListN.{get_or, length, replicate, length-replicate, set}
use Rattle.std.specs.Prelude.{Result, Ok, Err, IsErr, IsErrAnd}
use Rattle.lists.specs.Lists.{laid}
use Rattle.refusals.specs.declared.Refusal.{Refusal}
use Rattle.refusals.specs.Refusals.{number, number_of}
use Rattle.refusals.proofs.RefusalLaws.{number_positive}
use Rattle.cells.specs.Box.{triple}
use Rattle.cells.specs.declared.Triple.{Triple}
use Rattle.cutting.specs.Cutting.{blocks, good_cut, most_blocks, FewBlocks}
use Rattle.joiner.specs.Job.{Closed, Tables, lengths_fit}
use Rattle.joiner.specs.Declines.{tallies_fit}
use Rattle.joiner.specs.Stages.{lowest_block}
use Rattle.joiner.proofs.Codes.{lowest_there}
use Rattle.blocks.specs.Blocks.{cut_by, AnyExtents}
use Rattle.blocks.specs.declared.Cuts.{Cuts}
use Rattle.lowest.specs.Lowest.{InVolume}
use Rattle.job.specs.declared.Job.{Job}
use Rattle.job.specs.JobState.{AnyCuts, AnyTables, job_of, job_by, state_by}
use Rattle.job.specs.Lent.{no_tables}
use Rattle.judge.specs.Judge.{opened_of}
use Rattle.judge.proofs.JudgeLaws.{refused_first, passed_first, few_of, count_few}
use Rattle.cell_calls.specs.Cells.{CellLists, cell_count, cell_at, all_in_grid, needed_blocks}
use Rattle.cell_calls.specs.Calls.{request, cell_answer, lengths_one, most_cells}
use Rattle.cell_calls.specs.Declines.{cell_refusal}
use Rattle.cell_calls.specs.Outcomes.{listed_in, CellStep}
use Rattle.cell_calls.proofs.NeededLaws.{list_inside, needed_few}
use Rattle.cell_calls.proofs.AnswerLaws.{CellPassed, cell_passed, one_length, few_cells, refused_is, done_is}
use Rattle.judge_cells.specs.Tests.{AnyTray, placed_of, late_of}
use Rattle.judge_cells.proofs.TestLaws.{refusal_placed}
use Rattle.reading_blocks.specs.Marks.{count_of, marked_by, marked_blocks, Ready, SomeReady, Lists}
use Rattle.reading_blocks.proofs.MarkLaws.{marked_long, marked_needed}

-- ---- the ways of `refuse`

-- a request asks nothing more of the tables
nothing_more : (d : Bool) (n : ℕ) → n ≡ cond (not d) 8 0 → n ≡ cond (not (d && true)) 8 0
nothing_more true n s = s
nothing_more false n s = s

module _ (j : Job) (cuts : Cuts) (l : CellLists) (places : ℕ) (e : 0 ≡ opened_of (job_by j cuts) Closed)
    (v : Triple) (x : v ≡ triple j.nx j.ny j.nz) (a : Bool) (g : a ≡ all_in_grid v l) where
  abbrev Refuses : ℕ → Type 0
  Refuses r = AnyTables (λ t. AnyTray places (λ w. r ≡ cell_refusal (state_by j cuts t) (request l w)))

  f : a ≡ all_in_grid (triple j.nx j.ny j.nz) l
  f = rw x at g

  then_is : (t : Tables) (w : List ℕ) (r : ℕ) → r ≡ placed_of (state_by j cuts t) (request l w) → r ≡ cell_refusal (state_by j cuts t) (request l w)
  then_is t w r q = rw (refusal_placed (state_by j cuts t) (request l w)) (passed_first _ _ r e q)

  pub request_4 : a ≡ false → Refuses 4
  unfolding placed_of
  request_4 p t w h = then_is t w 4 (rw (sym f ∙ p))

  module _ (p : a ≡ true) (b : Bool) (h6 : b ≡ lengths_one (length l.xs) (length l.ys) (length l.zs) places) where
    pub request_6 : b ≡ false → Refuses 6
    unfolding placed_of late_of
    request_6 r t w h = then_is t w 6 (rw (sym f ∙ p, h, sym h6 ∙ r))

    module _ (r : b ≡ true) (d : Bool) (i : AnyCuts (λ cx cy cz. d ≡ tallies_fit (job_of j cx cy cz))) where
      pub request_last : (n : ℕ) → n ≡ cond (not d) 8 0 → Refuses n
      unfolding placed_of late_of lengths_fit
      request_last n s t w h = then_is t w n (rw (sym f ∙ p, h, sym h6 ∙ r, sym (i cuts.x.now cuts.y.now cuts.z.now)) (nothing_more d n s))

-- .. where the first tests refuse
pub request_first : (j : Job) (cuts : Cuts) (l : CellLists) (places : ℕ) (q : Refusal) → number q ≡ opened_of (job_by j cuts) Closed
    → AnyTables (λ t. AnyTray places (λ w. number q ≡ cell_refusal (state_by j cuts t) (request l w)))
request_first j cuts l places q e t w h = rw (refusal_placed (state_by j cuts t) (request l w)) (refused_first q _ _ e)

-- ---- the marks

module _ (c : Cuts) (l : CellLists) where
  pub ready_few : SomeReady c l → FewBlocks c.x.now c.y.now c.z.now
  ready_few R = few_of _ R.ready.good

  -- b is the lowest-numbered block of cell i
  module _ (i : ℕ) (h : i < cell_count l) (p : Triple) (e : p ≡ cell_at l i) (b : ℕ) (f : AnyExtents c (λ k. good_cut k ≡ true → InVolume k p → b ≡ lowest_block k p)) where
    lowest_is : AnyExtents c (λ k. Ready k l → b ≡ lowest_block k (cell_at l i))
    lowest_is v R = rw e at (f v R.good (rw e (list_inside v l R.inside i h)))

    pub mark_bound : SomeReady c l → b < most_blocks
    mark_bound S =
        let k = cut_by S.extents c in
        let R = S.ready in
        omega (arith, lowest_is S.extents R, (lowest_there k R.good (cell_at l i) (list_inside k.extents l R.inside i h)).0, count_few k R.good (blocks k) refl)

    pub mark_more : (marks u : List Bool) → AnyExtents c (λ k. Ready k l → u ≡ marked_by k l i marks) → AnyExtents c (λ k. Ready k l → set u b true ≡ marked_by k l (i + 1) marks)
    unfolding marked_by
    mark_more marks u I v R = rw (add-one i, I v R, lowest_is v R)

  pub mark_none : (marks : List Bool) → AnyExtents c (λ k. Ready k l → marks ≡ marked_by k l 0 marks)
  unfolding marked_by
  mark_none marks v R = refl

-- ---- the ways of `list_needed`

-- marks of which none is set
pub clear_marks : (n b : ℕ) → get_or {A = Bool} (replicate n false) b false ≡ false
clear_marks zero b = refl
clear_marks (suc n) zero = refl
clear_marks (suc n) (suc b) = clear_marks n b

module _ (c : Cuts) (l : CellLists) (u : List Bool)
    (I : AnyExtents c (λ k. Ready k l → u ≡ marked_by k l (cell_count l) (replicate most_blocks false))) (n : ℕ) (e : AnyExtents c (λ k. n ≡ blocks k)) where
  abbrev marks : List Bool
  marks = replicate most_blocks false

  long : length marks ≡ most_blocks
  long = length-replicate most_blocks false

  marks_needed : AnyExtents c (λ k. Ready k l → marked_blocks u n ≡ needed_blocks k l)
  marks_needed v R =
      let k = cut_by v c in
      rw (I v R, e v) (marked_needed k l marks (clear_marks most_blocks) (omega (arith, long, count_few k R.good (blocks k) refl)))

  -- what `list_marked` requires
  pub marks_room : SomeReady c l → (t : List ℕ) → length t ≡ cell_count l → length t ≤ most_cells
      → (length u ≡ most_blocks) × (n ≤ most_blocks) × (length (marked_blocks u n) ≤ length t) × (length t ≤ most_cells)
  marks_room S t h few =
      let k = cut_by S.extents c in
      let R = S.ready in (
        ap length (I S.extents R) ∙ marked_long k l marks (cell_count l) ∙ long,
        count_few k R.good n (e S.extents),
        omega (arith, ap length (marks_needed S.extents R), needed_few k l),
        few,
      )

  pub marks_listed : (r : ℕ) (t v : List ℕ) → (r ≡ length (marked_blocks u n)) × (v ≡ laid 0 (marked_blocks u n) t) → AnyExtents c (λ k. Ready k l → Lists k l r t v)
  marks_listed r t v p w R =
      let q = marks_needed w R in
      (p.0 ∙ ap length q, p.1 ∙ ap (λ (x : List ℕ). laid 0 x t) q)

-- ---- the ways of `request_blocks`

module _ (j : Job) (cuts : Cuts) (l : CellLists) (t : List ℕ) where
  abbrev Refuses-with : ℕ → Type 0
  Refuses-with n = AnyTables (λ u. AnyTray (length t) (λ w. n ≡ cell_refusal (state_by j cuts u) (request l w)))

  abbrev Steps : Result ℕ Refusal → List ℕ → Type 0
  Steps x v = AnyTables (λ u. CellStep (state_by j cuts u) (request l t) (cell_answer (number_of x) (count_of x) v))

  pub request_refused : (q : Refusal) → Refuses-with (number q) → (x : Result ℕ Refusal) → IsErr x × IsErrAnd x (λ r. r ≡ q) → Steps x t
  request_refused q e (Ok y) h u = absurd (true≢false (sym h.0))
  request_refused q e (Err r) h u =
      let told = ap number h.1 ∙ e u t refl in
      refused_is (state_by j cuts u) (request l t) (number r) told (λ z. absurd (omega (arith, number_positive r, z)))

  module _ (e : Refuses-with 0) where
    tested : CellPassed (state_by j cuts no_tables) (request l t)
    tested = cell_passed (state_by j cuts no_tables) (request l t) (sym (e no_tables t refl))

    is_ready : Ready (cut_by (triple j.nx j.ny j.nz) cuts) l
    is_ready = record { good = tested.cut; inside = tested.placed }

    -- what `list_needed` requires
    pub request_ready : SomeReady cuts l × (length t ≡ cell_count l) × (length t ≤ most_cells)
    request_ready = (record { extents = triple j.nx j.ny j.nz; ready = is_ready }, one_length l (length t) tested.lists, few_cells l (length t) tested.lists)

    pub request_done : (r : ℕ) (v : List ℕ) → AnyExtents cuts (λ k. Ready k l → Lists k l r t v) → Steps (Ok r) v
    unfolding listed_in
    request_done r v L u =
        let p = L (triple j.nx j.ny j.nz) is_ready in
        done_is (state_by j cuts u) (request l t) 0 (e u t refl) refl (cell_answer 0 r v) (rw (p.0, p.1) refl)
