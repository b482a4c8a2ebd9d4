-- The tests are the joiner's, and an accepted lookup answers what the joiner asks for.
-- Assumes nothing.
use mathlib.Core.Path.{◌≡◌, refl, sym, ap, ◌∙◌}
use mathlib.Core.Bool.{Bool, true, false, not, cond, ◌&&◌, true≢false}
use mathlib.Core.List.{List, []}
use Prim.Native.Nat.{ℕ, ◌≤◌, ◌<◌}
use native.Mathlib.Omega.{arith}
use lib.Dec.{ltb}
use lib.ListN.{length}
use borrow.Author.Tests.{ltb-true}
use Rattle.lists.proofs.Cases.{and_first, and_second}
use Rattle.std.specs.Prelude.{Result, Ok, Err, IsErr, IsErrAnd}
use Rattle.refusals.specs.declared.Refusal.{Refusal}
use Rattle.refusals.specs.Refusals.{number, number_of}
use Rattle.refusals.proofs.RefusalLaws.{number_positive}
use Rattle.cells.specs.Box.{triple}
use Rattle.cells.specs.declared.Triple.{Triple}
use Rattle.cells.specs.Extents.{Sized}
use Rattle.cutting.specs.Cutting.{Cutting, blocks, block_extents, good_cut, most_blocks, FewBlocks}
use Rattle.joiner.specs.Job.{Kind, Closed, State}
use Rattle.joiner.specs.Stages.{has_cell, local}
use Rattle.joiner.specs.Calls.{Call, look, answer, full}
use Rattle.joiner.specs.Declines.{adds, look_stands, refusal, stands_for, stray, tallies_fit}
use Rattle.joiner.specs.Outcomes.{CallStep, looked_up}
use Rattle.blocks.specs.Blocks.{AnyExtents, size_of, Tells, has_in}
use Rattle.blocks.specs.declared.Block.{Block}
use Rattle.blocks.specs.declared.Cuts.{Cuts}
use Rattle.blocks.proofs.BlockLaws.{has_told}
use Rattle.job.specs.declared.Job.{Job}
use Rattle.job.specs.JobState.{AnyCuts, job_of, job_by, state_by}
use Rattle.judge.specs.declared.CallName.{CallName}
use Rattle.judge.specs.declared.Entry.{Entry}
use Rattle.judge.specs.declared.Lengths.{Lengths}
use Rattle.judge.specs.Judge.{first_refusal, entries_of, lengths_of, opened_of, placed_of, entry_of, fits_lengths, block_fits, map_judged, map_stands_in}
use Rattle.judge.proofs.JudgeLaws.{FirstTests, few_of, count_few, opened_passed, passed_first, refused_first, or_then, or_none, or_else_assoc, refusal_opened, late_judged, late_none, block_sized, stands_is, step_refused, step_accepted}
use Rattle.reading_cell.specs.Inner.{lent, look_judged, HasPlace, number_read}
use Rattle.reading_cell.proofs.NumberLaws.{place_there}

-- 4, or else what follows
four_then : (a : Bool) (x y : ℕ) → cond (not a) 4 (first_refusal x y) ≡ first_refusal (cond (not a) 4 x) y
unfolding first_refusal
four_then true x y = refl
four_then false x y = refl

four_none : (a : Bool) (x : ℕ) → ◌≡◌ {A = ℕ} (cond (not a) 4 x) 0 → (a ≡ true) × (x ≡ 0)
four_none true x h = (refl, h)
four_none false x h = absurd (omega arith)

eight_none : (a b : Bool) → ◌≡◌ {A = ℕ} (cond (not a) 6 (cond (not b) 8 0)) 0 → b ≡ true
eight_none true true h = refl
eight_none true false h = absurd (omega arith)
eight_none false b h = absurd (omega arith)

-- ---- the ways of `has_place`

module _ (cuts : Cuts) (b : ℕ) (c : Triple) (t : Bool) (h : AnyExtents cuts (λ k. t ≡ ltb b (blocks k))) where
  pub place_none : t ≡ false → AnyExtents cuts (λ k. false ≡ (ltb b (blocks k) && has_cell k b c))
  place_none p e = rw (sym (h e) ∙ p)

  pub place_some : t ≡ true → (r : Block) → AnyExtents cuts (λ k. Tells k b r) → (u : Bool) → u ≡ has_in r c
      → AnyExtents cuts (λ k. u ≡ (ltb b (blocks k) && has_cell k b c))
  place_some p r T u q e = rw (sym (h e) ∙ p) (q ∙ has_told _ b r (T e) c)

-- ---- the ways of `refuse`

module _ (j : Job) (cuts : Cuts) (b : ℕ) (c : Triple) (e : 0 ≡ opened_of (job_by j cuts) Closed) (t : Bool)
    (h : AnyExtents cuts (λ k. t ≡ (ltb b (blocks k) && has_cell k b c))) (p : t ≡ true) where
  begun : (good_cut (job_by j cuts).told.cutting ≡ true) × (b < blocks (job_by j cuts).told.cutting)
  begun = (
    (opened_passed (job_by j cuts) Closed (sym e)).good,
    ltb-true _ _ (and_first (ltb b (blocks (job_by j cuts).told.cutting)) _ (sym (h (triple j.nx j.ny j.nz)) ∙ p)),
  )

  -- what `block_count` requires
  pub begun_few : FewBlocks cuts.x.now cuts.y.now cuts.z.now
  begun_few = few_of (job_by j cuts).told.cutting begun.0

  -- what `fits` and `judge_map` require
  pub begun_sized : (r : Block) → AnyExtents cuts (λ k. Tells k b r) → (i : ℕ) → AnyExtents cuts (λ k. i ≡ blocks k) → (i ≤ most_blocks) × Sized 64 (size_of r)
  begun_sized r T i many =
      (count_few (job_by j cuts).told.cutting begun.0 i (many (triple j.nx j.ny j.nz)), block_sized (job_by j cuts).told.cutting begun.0 b begun.1 r (T (triple j.nx j.ny j.nz)))

module _ (j : Job) (cuts : Cuts) (ticks table faces curves points : List ℕ) (b : ℕ) (m : List ℕ) (c : Triple) where
  abbrev k : Cutting
  k = (job_by j cuts).told.cutting

  abbrev before : State
  before = state_by j cuts (lent ticks table faces curves points)

  abbrev call : Call
  call = look b m c

  abbrev is_placed : Bool
  is_placed = ltb b (blocks k) && has_cell k b c

  module _ (e : 0 ≡ opened_of (job_by j cuts) Closed) (t : Bool) (h : AnyExtents cuts (λ k. t ≡ (ltb b (blocks k) && has_cell k b c))) where
    pub look_4 : t ≡ false → 4 ≡ look_judged before b m c
    unfolding look_judged
    look_4 p = passed_first _ _ _ e (rw (sym (h (triple j.nx j.ny j.nz)) ∙ p))

    pub look_judged_lem : t ≡ true → (r : Block) → AnyExtents cuts (λ k. Tells k b r) → (i : ℕ) → AnyExtents cuts (λ k. i ≡ blocks k)
        → (z : Lengths) → z ≡ lengths_of before.tables → (u : Bool) → u ≡ fits_lengths CallName.Lookup i (size_of r) (entries_of j) z (length m) → (d : Entry) → d ≡ entry_of table b
        → (x : ℕ) → AnyCuts (λ cx cy cz. x ≡ map_judged (job_of j cx cy cz) (size_of r) d u m) → x ≡ look_judged before b m c
    unfolding look_judged block_fits
    look_judged_lem p r T i many z Z u f d g x l =
        rw (sym (h (triple j.nx j.ny j.nz)) ∙ p, ← many (triple j.nx j.ny j.nz), ← (T (triple j.nx j.ny j.nz)).size, ← Z, ← f, ← g)
        (passed_first _ _ _ e (l cuts.x.now cuts.y.now cuts.z.now))

  -- ---- the refusal is the joiner's

  abbrev handed : Bool
  handed = look_stands before b m (local k b c)

  abbrev all_fit : Bool
  all_fit = block_fits (job_by j cuts) CallName.Lookup (lengths_of before.tables) b (length m)

  abbrev late : ℕ
  late = map_judged (job_by j cuts) (block_extents k b) (entry_of table b) all_fit m

  -- the final number that is handed out is tested last
  refusal_is : refusal before call ≡ first_refusal (look_judged before b m c) (cond (not handed) 8 (cond (full before.job.told.entries before.job.sofar (adds before call)) 10 0))
  unfolding look_judged placed_of
  refusal_is =
      refusal_opened before call refl ∙ ap (first_refusal (opened_of (job_by j cuts) Closed)) (rw (late_judged before call refl b m refl handed refl) (four_then is_placed late _)) ∙
      or_else_assoc (opened_of (job_by j cuts) Closed) (cond (not is_placed) 4 late) _

  -- ---- a lookup that is not refused before

  module _ (acc : look_judged before b m c ≡ 0) where
    passed : FirstTests (job_by j cuts) Closed
    unfolding look_judged
    passed = opened_passed (job_by j cuts) Closed (or_none (opened_of (job_by j cuts) Closed) (cond (not is_placed) 4 late) acc).0

    later : (is_placed ≡ true) × (late ≡ 0)
    unfolding look_judged
    later = four_none is_placed late (or_none (opened_of (job_by j cuts) Closed) (cond (not is_placed) 4 late) acc).1

    block_there : b < blocks k
    block_there = ltb-true b (blocks k) (and_first (ltb b (blocks k)) (has_cell k b c) later.0)

    pub cell_there : (r : Block) → Tells k b r → has_in r c ≡ true
    cell_there r T = has_told k b r T c ∙ and_second (ltb b (blocks k)) (has_cell k b c) later.0

    pub cell_local : (r : Block) → Tells k b r → (has_in r c ≡ true) × Sized 64 (size_of r)
    cell_local r T = (cell_there r T, block_sized k passed.good b block_there r T)

    pub cell_placed : (r : Block) → Tells k b r → HasPlace k.extents r c
    cell_placed r T = place_there j cuts ticks table faces curves points b m c r T passed.sized passed.good block_there (cell_there r T)

    none_added : (κ : Kind) → adds before call κ ≡ 0
    unfolding adds
    none_added κ = refl

    -- 10 cannot stand
    all_stands : handed ≡ true → (tallies_fit before.job && stands_for before call) ≡ true
    unfolding map_judged
    all_stands v =
        let map-in = map_stands_in (block_extents k b) (entry_of table b) j.entries.faces j.entries.curves m in
        let a = eight_none all_fit (tallies_fit before.job && map-in) later.1 in
        rw (stands_is before (block_extents k b) b m, and_first (tallies_fit before.job) map-in a, and_second (tallies_fit before.job) map-in a, v)

    has_room : handed ≡ true → ◌≡◌ {A = ℕ} (cond (full before.job.told.entries before.job.sofar (adds before call)) 10 0) 0
    unfolding stray
    has_room v = rw (all_stands v) at (late_none before call none_added false)

    -- t is whether the final number is one of the closed table's
    module _ (t : Bool) (h : t ≡ handed) where
      pub look_stray : t ≡ false → CallStep before call (answer 8 0 []) before
      look_stray p = step_refused before call 8 (rw (refusal_is, acc, sym h ∙ p) (or_then 0 _ 8 refl refl)) (λ h. omega (arith, h))

      pub look_accepted : t ≡ true → (number : ℕ) → number ≡ looked_up before b m c → CallStep before call (answer 0 number []) before
      look_accepted p number e =
          let v : handed ≡ true = sym h ∙ p in
          step_accepted before call 0 (rw (refusal_is, acc, v, has_room v) (or_then 0 _ 0 refl refl)) refl (answer 0 number []) before refl (ap (λ (x : ℕ). answer 0 x []) e, refl)

  pub look_refused : (r : Refusal) → number r ≡ look_judged before b m c → (x : Result ℕ Refusal) → IsErr x × IsErrAnd x (λ q. q ≡ r)
      → CallStep before call (answer (number_of x) (number_read x) []) before
  look_refused r e (Ok y) h = absurd (true≢false (sym h.0))
  look_refused r e (Err q) h =
      step_refused before call (number q) (ap number h.1 ∙ rw refusal_is (refused_first r _ _ e)) (λ z. absurd (omega (arith, number_positive q, z)))
