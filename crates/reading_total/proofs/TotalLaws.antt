-- The tests in the order of the code are those of the definition, and what an accepted reading answers is what it asks for.
-- Assumes nothing.
use mathlib.Core.Path.{◌≡◌, refl, sym, ap, ◌∙◌}
use mathlib.Core.Bool.{Bool, true, false, not, cond, ◌&&◌, true≢false}
use mathlib.Core.List.{List, [], ◌∷◌}
use Prim.Native.Nat.{ℕ, zero, suc, ◌+◌, ◌≤◌, ◌<◌}
use native.Mathlib.Numerals.{add-one}
use native.Mathlib.Omega.{arith}
use lib.Dec.{leb, ltb}
use lib.ListN.{length}
use lib.Ieee.{Float}
use Rattle.std.specs.List.{list_all, range_with_len}
use Rattle.std.specs.Prelude.{Result, Ok, Err, IsErr, IsErrAnd}
use Rattle.lists.specs.Lists.{consecutive, all_of}
use Rattle.lists.proofs.Cases.{and_first, and_second}
use Rattle.refusals.specs.declared.Refusal.{Refusal}
use Rattle.refusals.proofs.RefusalLaws.{number_positive}
use Rattle.refusals.specs.Refusals.{number, number_of, table, first, given_by, stands_in}
use Rattle.cells.specs.Box.{triple}
use Rattle.cells.specs.Extents.{Sized, off_size}
use Rattle.cells.specs.Grid.{cells}
use Rattle.cutting.specs.Cutting.{Cutting, blocks, good_cut, FewBlocks}
use Rattle.joiner.specs.Job.{Face, Closed, Tables, State, same_stage, lengths_fit}
use Rattle.joiner.specs.Job as joiner
use Rattle.joiner.specs.Declines.{tallies_fit}
use Rattle.blocks.specs.Blocks.{AnyExtents}
use Rattle.blocks.specs.declared.Cuts.{Cuts}
use Rattle.job.specs.declared.Job.{Job}
use Rattle.job.specs.JobState.{AnyCuts, job_of, job_by, state_by, total_lengths}
use Rattle.stages.specs.Ticks.{ticked_in}
use Rattle.judge.specs.Judge.{first_refusal, opened_of}
use Rattle.judge.proofs.JudgeLaws.{FirstTests, passed_first, or_none, opened_passed, few_of}
use Rattle.judge.proofs.JudgeLaws.{number_of as number_in}
use Rattle.totals.specs.Totals.{Holds, both_stand, totals_of}
use Rattle.totals.specs.declared.Totals.{Totals}
use Rattle.strain_calls.specs.Tables.{TotalTables, total_tables, total_trays}
use Rattle.strain_calls.specs.Calls.{total, strain_answer, no_totals, all_come}
use Rattle.strain_calls.specs.Declines.{has_come, total_stands, strain_declines, strain_refusal}
use Rattle.strain_calls.specs.Outcomes.{StrainStep}
use Rattle.strain_calls.proofs.HoldsLaws.{trays_hold, face_holds}
use Rattle.reading_total.specs.Inner.{stand_in, refusal_of, totals_read}

-- ---- a search through numbers

range_is : (i n : ℕ) → range_with_len i n ≡ consecutive i n
unfolding consecutive
range_is i zero = refl
range_is i (suc n) = rw (range_is (i + 1) n, add-one i)

all_is : (f : ℕ → Bool) (l : List ℕ) → list_all f l ≡ all_of f l
all_is f [] = refl
all_is f (x ∷ xs) = rw (all_is f xs)

pub all_range : (f : ℕ → Bool) (i n : ℕ) → list_all f (range_with_len i n) ≡ all_of f (consecutive i n)
all_range f i n = rw (range_is i n, all_is f)

-- ---- the ways of the functions

module _ (j : Job) (sums : List Float) (counts : List ℕ) (n : ℕ) (t : Bool) (e : AnyCuts (λ cx cy cz. t ≡ tallies_fit (job_of j cx cy cz))) where
  -- what `both_stand` requires
  pub stand_holds : t ≡ true → n ≤ j.numbered.faces → Holds sums counts j.entries.faces → Holds sums counts n
  stand_holds q = face_holds (job_of j [] [] []) sums counts n (sym (e [] [] []) ∙ q)

  pub stand_none : t ≡ false → AnyCuts (λ cx cy cz. false ≡ stand_in (job_of j cx cy cz) sums counts n)
  unfolding stand_in
  stand_none q cx cy cz = rw (sym (e cx cy cz) ∙ q)

  pub stand_both : t ≡ true → (most : ℕ) → most ≡ cells (triple j.nx j.ny j.nz) → (r : Bool) → r ≡ both_stand most sums counts n
      → AnyCuts (λ cx cy cz. r ≡ stand_in (job_of j cx cy cz) sums counts n)
  unfolding stand_in
  stand_both q most s r h cx cy cz = rw (sym (e cx cy cz) ∙ q, ← s) h

-- the tests after the first ones, by what the code finds
module _ (j : Job) (cuts : Cuts) (came : List ℕ) (sums : List Float) (counts : List ℕ) (n : ℕ) (e : 0 ≡ opened_of (job_by j cuts) Closed) where
  abbrev k : Cutting
  k = (job_by j cuts).told.cutting

  abbrev Refuses : ℕ → Type 0
  Refuses r = r ≡ refusal_of (job_by j cuts) (total_tables came sums counts) n

  begun : FirstTests (job_by j cuts) Closed
  begun = opened_passed (job_by j cuts) Closed (sym e)

  -- what `block_count` requires
  pub refuse_few : FewBlocks cuts.x.now cuts.y.now cuts.z.now
  refuse_few = few_of k begun.good

  -- what `stand` requires
  pub refuse_ready : (t4 : Bool) → t4 ≡ (ltb 0 n && leb n j.numbered.faces) → t4 ≡ true
      → (count came' : ℕ) (t6 : Bool) → t6 ≡ lengths_fit (total_lengths count j.entries.faces came' (length sums) (length counts))
      → t6 ≡ true → Sized 1024 (triple j.nx j.ny j.nz) × (0 < n) × (n ≤ j.numbered.faces) × Holds sums counts j.entries.faces
  refuse_ready t4 e4 p4 count came' t6 e6 p6 =
      let is = number_in n j.numbered.faces (sym e4 ∙ p4) in
      (begun.sized, is.0, is.1, trays_hold count j.entries.faces came' sums counts (sym e6 ∙ p6))

  module _ (count : ℕ) (c : AnyExtents cuts (λ k. count ≡ blocks k)) (t3 : Bool) (e3 : t3 ≡ all_of (ticked_in came) (consecutive 0 count)) where
    all_come_is : t3 ≡ all_come k (ticked_in came)
    unfolding all_come
    all_come_is = rw (← c (triple j.nx j.ny j.nz)) e3

    pub refuse_3 : t3 ≡ false → Refuses 3
    unfolding refusal_of
    refuse_3 p = passed_first _ _ _ e (rw (sym all_come_is ∙ p))

    module _ (p3 : t3 ≡ true) (t4 : Bool) (e4 : t4 ≡ (ltb 0 n && leb n j.numbered.faces)) where
      pub refuse_4 : t4 ≡ false → Refuses 4
      unfolding refusal_of
      refuse_4 p = passed_first _ _ _ e (rw (sym all_come_is ∙ p3, sym e4 ∙ p))

      module _ (p4 : t4 ≡ true) (t6 : Bool) (e6 : t6 ≡ lengths_fit (total_lengths count j.entries.faces (length came) (length sums) (length counts))) where
        trays_is : t6 ≡ lengths_fit (total_trays (job_by j cuts).told (total_tables came sums counts))
        unfolding total_trays
        trays_is = rw (← c (triple j.nx j.ny j.nz)) e6

        pub refuse_6 : t6 ≡ false → Refuses 6
        unfolding refusal_of
        refuse_6 p = passed_first _ _ _ e (rw (sym all_come_is ∙ p3, sym e4 ∙ p4, sym trays_is ∙ p))

        pub refuse_last : t6 ≡ true → (t8 : Bool) → AnyCuts (λ cx cy cz. t8 ≡ stand_in (job_of j cx cy cz) sums counts n) → (r : ℕ) → r ≡ cond (not t8) 8 0 → Refuses r
        unfolding refusal_of
        refuse_last p t8 e8 r q =
            passed_first _ _ _ e (rw (sym all_come_is ∙ p3, sym e4 ∙ p4, sym trays_is ∙ p, sym (e8 cuts.x.now cuts.y.now cuts.z.now)) q)

-- ---- the tests are those of the definition

-- 3 has two causes
ladder : (a b c d f g h : Bool)
    → ◌≡◌ {A = ℕ} (cond a 1 (cond (not b) 2 (cond (not (c && d)) 3 (cond (not f) 4 (cond (not g) 6 (cond (not h) 8 0))))))
    (first_refusal (cond a 1 (cond (not b) 2 (cond (not c) 3 0))) (cond (not d) 3 (cond (not f) 4 (cond (not g) 6 (cond (not h) 8 0)))))
unfolding first_refusal
ladder true b c d f g h = refl
ladder false false c d f g h = refl
ladder false true false d f g h = refl
ladder false true true d f g h = refl

module _ (j : Job) (cuts : Cuts) (came : List ℕ) (sums : List Float) (counts : List ℕ) (n : ℕ) (t : Tables) where
  abbrev before : State
  before = state_by j cuts t

  abbrev w : TotalTables
  w = total_tables came sums counts

  come_is : has_come w ≡ ticked_in came
  unfolding has_come ticked_in
  come_is = refl

  -- The refusal is that of the definition.
  pub refusal_is : strain_refusal before w (total n) ≡ refusal_of (job_by j cuts) w n
  unfolding strain_refusal strain_declines given_by first table number stands_in refusal_of opened_of stand_in total_stands
  refusal_is =
      rw come_is
      (ladder (off_size 1024 before.job.told.cutting.extents) (good_cut before.job.told.cutting) (same_stage before.job.stage Closed)
      (all_come before.job.told.cutting (ticked_in came)) (ltb 0 n && leb n j.numbered.faces) (lengths_fit (total_trays before.job.told w))
      (tallies_fit before.job && both_stand (cells before.job.told.cutting.extents) sums counts n))

-- ---- an accepted reading

passed : (a b c d : Bool) → ◌≡◌ {A = ℕ} (cond (not a) 3 (cond (not b) 4 (cond (not c) 6 (cond (not d) 8 0)))) 0 → (b ≡ true) × (c ≡ true) × (d ≡ true)
passed true true true true h = (refl, refl, refl)
passed true true true false h = absurd (omega arith)
passed true true false d h = absurd (omega arith)
passed true false c d h = absurd (omega arith)
passed false b c d h = absurd (omega arith)

-- what `grid_cells` and `totals_of` require
module _ (j : joiner.Job) (w : TotalTables) (n : ℕ) (e : 0 ≡ refusal_of j w n) where
  rungs : (opened_of j Closed ≡ 0) × (ltb 0 n && leb n (j.numbered Face) ≡ true) × (lengths_fit (total_trays j.told w) ≡ true) × (stand_in j w.sums w.counts n ≡ true)
  unfolding refusal_of
  rungs =
      let r = or_none (opened_of j Closed) _ (sym e) in
      let p = passed (all_come j.told.cutting (ticked_in w.came)) (ltb 0 n && leb n (j.numbered Face)) (lengths_fit (total_trays j.told w)) (stand_in j w.sums w.counts n) r.1 in
      (r.0, p.0, p.1, p.2)

  pub ready_sized : Sized 1024 j.told.cutting.extents
  ready_sized = (opened_passed j Closed rungs.0).sized

  pub ready_stands : (most : ℕ) → most ≡ cells j.told.cutting.extents → (0 < n) × Holds w.sums w.counts n × (both_stand most w.sums w.counts n ≡ true)
  unfolding stand_in total_trays
  ready_stands most s =
      let is = number_in n (j.numbered Face) rungs.1 in
      let stands = both_stand (cells j.told.cutting.extents) w.sums w.counts n in
      let holds = trays_hold (blocks j.told.cutting) (j.told.entries Face) (length w.came) w.sums w.counts rungs.2 in (
        is.0,
        face_holds j w.sums w.counts n (and_first (tallies_fit j) stands rungs.3) is.1 holds,
        rw s (and_second (tallies_fit j) stands rungs.3),
      )

-- ---- the public entry

module _ (j : Job) (cuts : Cuts) (came : List ℕ) (sums : List Float) (counts : List ℕ) (n : ℕ) where
  abbrev Reads : Result Totals Refusal → Type 0
  Reads x =
      (t : Tables) → StrainStep (state_by j cuts t) (total_tables came sums counts) (total n) (strain_answer (number_of x) (totals_read x)) (total_tables came sums counts)

  abbrev refuses : ℕ → Type 0
  refuses r = r ≡ refusal_of (job_by j cuts) (total_tables came sums counts) n

  told : (r : ℕ) → refuses r → (t : Tables) → r ≡ strain_refusal (state_by j cuts t) (total_tables came sums counts) (total n)
  told r e t = e ∙ sym (refusal_is j cuts came sums counts n t)

  pub total_refused : (r : Refusal) → refuses (number r) → (x : Result Totals Refusal) → IsErr x × IsErrAnd x (λ q. q ≡ r) → Reads x
  total_refused r e (Ok y) h t = absurd (true≢false (sym h.0))
  total_refused r e (Err q) h t =
      let is = ap number h.1 ∙ told (number r) e t in
      record { told = is; declined = λ _. (ap (λ (x : ℕ). strain_answer x no_totals) is, refl); accepted = λ a. absurd (omega (arith, number_positive q, is, a)) }

  pub total_accepted : refuses 0 → (found : Totals) → found ≡ totals_of sums counts n → Reads (Ok found)
  total_accepted e found q t = record { told = told 0 e t; declined = λ h. absurd (h (sym (told 0 e t))); accepted = λ _. (ap (strain_answer 0) q, refl) }
