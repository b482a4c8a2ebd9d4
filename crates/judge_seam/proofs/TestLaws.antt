-- The ways of the tests of a seam step, over plain lists and numbers.
-- Assumes nothing.
use mathlib.Core.Path.{◌≡◌, refl, sym, ◌∙◌}
use mathlib.Core.Bool.{Bool, true, false, not, cond, ◌&&◌}
use mathlib.Core.List.{List, []}
use Prim.Native.Nat.{ℕ, ◌+◌, ◌*◌}
use lib.Dec.{eqb}
use lib.ListN.{length}
use borrow.Author.Tests.{eqb-true}
use Rattle.lists.proofs.Cases.{and_first, and_second}
use Rattle.cells.specs.Box.{triple}
use Rattle.cells.specs.declared.Triple.{Triple}
use Rattle.refusals.specs.declared.Refusal.{Refusal}
use Rattle.refusals.specs.Refusals.{number}
use Rattle.refusals.proofs.RefusalLaws.{number_positive}
use native.Mathlib.Omega.{arith}
use Rattle.cells.specs.Extents.{Sized}
use Rattle.cells.specs.Grid.{cells}
use Rattle.cutting.specs.Cutting.{Cutting, blocks, block_extents, good_cut, seam}
use Rattle.joiner.specs.Job.{Kind, Seam, State, ticked, lengths_fit, ticks_per_block}
use Rattle.joiner.specs.Stages.{seam_axis, seam_step}
use Rattle.joiner.specs.Calls.{Call, join, layers_differ}
use Rattle.joiner.specs.Declines.{adds, refusal, tallies_fit}
use Rattle.joiner.proofs.Shared.{seam_listed}
use Rattle.pass_seam.specs.Walks.{layers_differ_to}
use Rattle.pass_seam.proofs.SeamWalks.{seam_differs}
use Rattle.blocks.specs.Blocks.{Tells, size_of, AnyExtents}
use Rattle.blocks.specs.declared.Block.{Block}
use Rattle.blocks.specs.declared.Cuts.{Cuts}
use Rattle.job.specs.declared.Job.{Job}
use Rattle.job.specs.JobState.{AnyCuts, job_by, job_of, state_by}
use Rattle.stages.specs.Ticks.{ticked_in}
use Rattle.judge.specs.declared.CallName.{CallName}
use Rattle.judge.specs.declared.Entry.{Entry}
use Rattle.judge.specs.declared.Lengths.{Lengths}
use Rattle.judge.specs.Judge.{first_refusal, entries_of, lengths_of, lent_by, opened_of, placed_of, late_of, entry_of, fits_lengths, map_judged, map_stands_in}
use Rattle.judge.proofs.JudgeLaws.{passed_first, refused_first, or_first, or_then, or_none, or_six, six_none, refusal_opened, late_none, opened_passed, block_sized, stands_is, links_is, lent_is, fits_size}
use Rattle.judge_seam.specs.declared.Shared.{Shared}
use Rattle.judge_seam.specs.Tests.{lent, fits_both, upper_stands, AnySeam, SharedBy}

-- ---- the layer

module _ (low high : Block) (axis : ℕ) (m n : List ℕ) (s : Shared) (S : SharedBy low high axis s) where
  pub differ_told : (r : Bool) → r ≡ layers_differ_to m s.lower n s.upper s.columns s.rows → AnySeam axis low high (λ k b c. r ≡ layers_differ k (join b c m n))
  differ_told r e k b c z =
      e ∙ seam_differs k z.good b c z.is_seam axis s.columns s.rows z.number m s.lower n s.upper
      (rw z.tells_low.size at S.last) (rw z.tells_high.size at S.first) (rw z.tells_low.size at S.wide) (rw z.tells_low.size at S.deep)

-- ---- what is required

-- the blocks of a seam
module _ (k : Cutting) (b c : ℕ) (good : good_cut k ≡ true) (is_seam : seam k b c ≡ true) where
  pub lower_sized : (low : Block) → Tells k b low → Sized 64 (size_of low)
  lower_sized = block_sized k good b (seam_listed k b c is_seam).0

  pub upper_sized : (high : Block) → Tells k c high → Sized 64 (size_of high)
  upper_sized = block_sized k good c (seam_listed k b c is_seam).1

-- maps of the stated lengths
module _ (count : ℕ) (e f : Triple) (entries : Kind → ℕ) (z : Lengths) (lower upper : ℕ) (u : Bool) (h : u ≡ fits_both count e f entries z lower upper) (v : u ≡ true) where
  fit_both : (fits_lengths CallName.Seam count e entries z lower && eqb upper (cells f)) ≡ true
  unfolding fits_both
  fit_both = sym h ∙ v

  pub lower_cells : lower ≡ cells e
  lower_cells = fits_size CallName.Seam count e entries z lower _ refl (and_first (fits_lengths CallName.Seam count e entries z lower) (eqb upper (cells f)) fit_both)

  pub upper_cells : upper ≡ cells f
  upper_cells = eqb-true upper (cells f) (and_second (fits_lengths CallName.Seam count e entries z lower) (eqb upper (cells f)) fit_both)

-- the judge has passed the lengths
pub judged_fits : (j : Job) (e : Triple) (d : Entry) (u : Bool) (m : List ℕ) → AnyCuts (λ cx cy cz. 0 ≡ map_judged (job_of j cx cy cz) e d u m) → u ≡ true
unfolding map_judged
judged_fits j e d u m l =
    let stands : ℕ = cond (not (tallies_fit (job_of j [] [] []) && map_stands_in e d j.entries.faces j.entries.curves m)) 8 0 in
    six_none u (or_none (cond (not u) 6 0) stands (sym (or_six u stands) ∙ sym (l [] [] []))).0

-- the first tests have passed, t is whether the blocks are a seam
pub seam_passed : (j : Job) (cuts : Cuts) (b c : ℕ) → 0 ≡ opened_of (job_by j cuts) Seam → (t : Bool) → AnyExtents cuts (λ k. t ≡ seam k b c) → t ≡ true
    → (good_cut (job_by j cuts).told.cutting ≡ true) × (seam (job_by j cuts).told.cutting b c ≡ true)
seam_passed j cuts b c e t h p = ((opened_passed (job_by j cuts) Seam (sym e)).good, sym (h (triple j.nx j.ny j.nz)) ∙ p)

-- ---- the ways of `rest`

-- 8 decided in two steps, after 6
in_two : (a b l t p o : Bool) (x : ℕ) → cond (not ((a && b) && l)) 6 (cond (not (t && (p && o))) 8 x) ≡ first_refusal (cond (not ((a && l) && b)) 6 (cond (not (t && p)) 8 0)) (cond (not o) 8 x)
unfolding first_refusal
in_two false b l t p o x = refl
in_two true false false t p o x = refl
in_two true false true t p o x = refl
in_two true true false t p o x = refl
in_two true true true false p o x = refl
in_two true true true true false o x = refl
in_two true true true true true o x = refl

module _ (j : Job) (cuts : Cuts) (ticks table faces curves : List ℕ) (b c : ℕ) (m n : List ℕ) where
  abbrev k : Cutting
  k = (job_by j cuts).told.cutting

  abbrev e_of : Triple
  e_of = triple j.nx j.ny j.nz

  abbrev before : State
  before = state_by j cuts (lent ticks table faces curves)

  abbrev call : Call
  call = join b c m n

  none_added : (κ : Kind) → adds before call κ ≡ 0
  unfolding adds
  none_added κ = refl

  abbrev all_fit : Bool
  all_fit = fits_both (blocks k) (block_extents k b) (block_extents k c) (entries_of j) (lengths_of before.tables) (length m) (length n)

  abbrev upper_holds : Bool
  upper_holds = upper_stands (block_extents k c) (entry_of table b) (entry_of table c) j.entries.faces j.entries.curves n faces curves

  late_is : late_of before call ≡ first_refusal (map_judged (job_by j cuts) (block_extents k b) (entry_of table b) all_fit m) (cond (not upper_holds) 8 (cond (layers_differ k call) 9 0))
  unfolding late_of map_judged fits_both fits_lengths upper_stands
  late_is =
      rw (
        late_none before call none_added (layers_differ k call),
        lent_is before.job.told before.tables call,
        stands_is before (block_extents k b) b m,
        stands_is before (block_extents k c) c n,
        links_is before b,
        links_is before c,
      )
      (in_two (eqb (length m) (cells (block_extents k b))) (eqb (length n) (cells (block_extents k c)))
      (lengths_fit (lent_by CallName.Seam (blocks k) (entries_of j) (lengths_of before.tables))) (tallies_fit before.job)
      (map_stands_in (block_extents k b) (entry_of table b) j.entries.faces j.entries.curves m) upper_holds (cond (layers_differ k call) 9 0))

  -- u is what the lengths tell, x what the judge tells of the lower block's map
  module _ (low high : Block) (A : AnyExtents cuts (λ k. Tells k b low)) (B : AnyExtents cuts (λ k. Tells k c high)) (count : ℕ)
      (many : AnyExtents cuts (λ k. count ≡ blocks k)) (u : Bool)
      (f : u ≡ fits_both count (size_of low) (size_of high) (entries_of j) (lengths_of before.tables) (length m) (length n))
      (d g : Entry) (d_is : d ≡ entry_of table b) (g_is : g ≡ entry_of table c) (x : ℕ) (l : AnyCuts (λ cx cy cz. x ≡ map_judged (job_of j cx cy cz) (size_of low) d u m)) where
    abbrev tells_low : Tells k b low
    tells_low = A e_of

    abbrev tells_high : Tells k c high
    tells_high = B e_of

    first_is : x ≡ map_judged (job_by j cuts) (block_extents k b) (entry_of table b) all_fit m
    first_is = rw (← many e_of, ← tells_low.size, ← tells_high.size, ← f, ← d_is) (l cuts.x.now cuts.y.now cuts.z.now)

    pub late_first : (q : Refusal) → x ≡ number q → x ≡ late_of before call
    late_first q y = rw (late_is, ← first_is) (or_first x _ (λ o. absurd (omega (arith, number_positive q, y, o))))

    module _ (z : x ≡ 0) (v : Bool) (h : v ≡ upper_stands (size_of high) d g j.entries.faces j.entries.curves n faces curves) where
      holds_is : v ≡ upper_holds
      holds_is = rw (← tells_high.size, ← d_is, ← g_is) h

      pub late_8 : v ≡ false → 8 ≡ late_of before call
      late_8 o = rw (late_is, ← first_is, sym holds_is ∙ o) (or_then x _ 8 z refl)

      module _ (o : v ≡ true) (axis : ℕ) (good : good_cut k ≡ true) (is_seam : seam k b c ≡ true) (number_is : axis ≡ seam_axis k b c) (t : Bool)
          (e : AnySeam axis low high (λ k b c. t ≡ layers_differ k (join b c m n))) where
        differ_is : t ≡ layers_differ k call
        differ_is = e k b c (record { good = good; is_seam = is_seam; number = number_is; tells_low = tells_low; tells_high = tells_high })

        pub late_layers : cond t 9 0 ≡ late_of before call
        late_layers = rw (late_is, ← first_is, sym holds_is ∙ o, ← differ_is) (or_then x _ (cond t 9 0) z refl)

  -- ---- the ways of `judge_seam`

  pub seam_first : (q : Refusal) → number q ≡ opened_of (job_by j cuts) Seam → number q ≡ refusal before call
  seam_first q e = rw (refusal_opened before call refl) (refused_first q _ _ e)

  module _ (e : 0 ≡ opened_of (job_by j cuts) Seam) (t : Bool) (h : AnyExtents cuts (λ k. t ≡ seam k b c)) where
    is_seam : t ≡ seam k b c
    is_seam = h e_of

    pub seam_4 : t ≡ false → 4 ≡ refusal before call
    unfolding placed_of
    seam_4 p = rw (refusal_opened before call refl, ← e, sym is_seam ∙ p) (passed_first 0 _ 4 refl refl)

    module _ (p : t ≡ true) (axis : ℕ) (i : AnyExtents cuts (λ k. axis ≡ seam_axis k b c)) (step : ℕ) (f : step ≡ ticks_per_block * b + axis) (u : Bool) (g : u ≡ ticked_in ticks step) where
      is_done : u ≡ ticked before.tables (ticks_per_block * b + seam_axis k b c)
      unfolding ticked ticked_in
      is_done = rw (← i e_of, ← f) g

      pub seam_5 : u ≡ true → 5 ≡ refusal before call
      unfolding placed_of seam_step
      seam_5 w = rw (refusal_opened before call refl, ← e, sym is_seam ∙ p, sym is_done ∙ w) (passed_first 0 _ 5 refl refl)

      pub seam_rest : u ≡ false → (x : ℕ) → x ≡ late_of before call → x ≡ refusal before call
      unfolding placed_of seam_step
      seam_rest w x l = rw (refusal_opened before call refl, ← e, sym is_seam ∙ p, sym is_done ∙ w) (passed_first 0 _ x refl l)
