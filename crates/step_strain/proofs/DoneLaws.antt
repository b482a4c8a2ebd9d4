-- What an accepted readings' step has passed, and that what it leaves is what the definition asks for.
-- Assumes nothing.
use mathlib.Core.Path.{◌≡◌, refl, sym, ◌∙◌, ap}
use mathlib.Core.Bool.{Bool, true}
use mathlib.Core.List.{List}
use Prim.Native.Nat.{ℕ, ◌<◌}
use native.Mathlib.Omega.{arith}
use lib.ListN.{set}
use lib.Ieee.{Float}
use Rattle.std.specs.Prelude.{Result, IsErr, IsErrAnd}
use Rattle.refusals.specs.declared.Refusal.{Refusal}
use Rattle.refusals.specs.Refusals.{number, number_of}
use Rattle.refusals.proofs.RefusalLaws.{err_number, number_positive}
use Rattle.cells.specs.declared.Triple.{Triple}
use Rattle.cutting.specs.Cutting.{Cutting, blocks, block_extents, good_cut}
use Rattle.cutting.proofs.CutLaws.{block_sized}
use Rattle.joiner.specs.Job.{Face, Closed, Tables, State, from_of}
use Rattle.blocks.specs.Blocks.{Tells, AnyExtents, size_of}
use Rattle.blocks.specs.declared.Block.{Block}
use Rattle.blocks.specs.declared.Cuts.{Cuts}
use Rattle.job.specs.declared.Job.{Job}
use Rattle.job.specs.JobState.{job_by, state_by}
use Rattle.judge.specs.declared.Entry.{Entry}
use Rattle.judge.specs.Judge.{reached_of, entry_of}
use Rattle.judge.proofs.JudgeLaws.{reached_passed, FirstTests, or_none, six_passed}
use Rattle.totals.specs.Totals.{sums_with, counts_with}
use Rattle.lowest.specs.Lowest.{AnyDepth, starts}
use Rattle.pass_strain.specs.BlockReadings.{brought, block_taken, Whole}
use Rattle.pass_strain.proofs.AddingLaws.{block_adds_lem}
use Rattle.strain_calls.specs.Tables.{total_tables, TotalTables}
use Rattle.strain_calls.specs.Adding.{block_adds}
use Rattle.strain_calls.specs.Calls.{strain, strain_answer, no_totals}
use Rattle.strain_calls.specs.Declines.{strain_refusal}
use Rattle.strain_calls.specs.Outcomes.{StrainPromise, with_readings, AnyTablesWith}
use Rattle.judge_strain.specs.Tests.{sizes_of, trays_fit, refusal_of}
use Rattle.judge_strain.proofs.TestLaws.{whole_of, refusal_is}
use Rattle.step_strain.specs.Inner.{cutting_of, Ready, adds_in, stored_in}

-- ---- what is added

module _ (j : Job) (cuts : Cuts) (came : List ℕ) (sums : List Float) (counts : List ℕ) (b : ℕ) (m : List ℕ) (values : List Float) (kinds : List ℕ) (t : Tables) where
  abbrev k : Cutting
  k = cutting_of j cuts

  abbrev before : State
  before = state_by j cuts t

  abbrev w : TotalTables
  w = total_tables came sums counts

  from_is : from_of t Face b ≡ (entry_of t.blocks b).face_from
  unfolding from_of entry_of
  from_is = refl

  -- What is added is what the definition says.
  pub stored_is : good_cut k ≡ true → b < blocks k → with_readings before w b m values kinds ≡ stored_in k t.blocks (t.numbers Face) w b m values kinds
  unfolding with_readings block_adds stored_in adds_in
  stored_is good hb = rw (block_adds_lem k good b hb t m values kinds, from_is)

-- ---- the public entry

module _ (j : Job) (cuts : Cuts) (lent-blocks lent-numbers came : List ℕ) (sums : List Float) (counts : List ℕ) (b : ℕ) (m : List ℕ) (values : List Float) (kinds : List ℕ) where
  abbrev cut_as : Cutting
  cut_as = cutting_of j cuts

  abbrev lent : TotalTables
  lent = total_tables came sums counts

  abbrev Judged : ℕ → Type 0
  Judged n = n ≡ refusal_of (job_by j cuts) lent-blocks lent-numbers lent b m values kinds

  abbrev Steps : ℕ → TotalTables → Type 0
  Steps r v = StrainPromise (job_by j cuts) lent-blocks lent-numbers lent b m values kinds r v

  told_number : (n : ℕ) → Judged n → AnyTablesWith lent-blocks lent-numbers (λ t. n ≡ strain_refusal (state_by j cuts t) lent (strain b m values kinds))
  told_number n e t p q = rw (refusal_is j cuts came sums counts b m values kinds t, p, q) e

  pub strain_refused : {A : Type 0} (x : Result A Refusal) (r : Refusal) → Judged (number r) → IsErr x × IsErrAnd x (λ q. q ≡ r) → Steps (number_of x) lent
  strain_refused x r e h t p q =
      let is : number_of x ≡ strain_refusal (state_by j cuts t) lent (strain b m values kinds) = err_number x r h ∙ told_number (number r) e t p q in
      record {
        told = is;
        declined = λ _. (ap (λ (n : ℕ). strain_answer n no_totals) is, refl);
        accepted = λ a. absurd (omega (arith, number_positive r, err_number x r h, is, a));
      }

  module _ (e : Judged 0) where
    abbrev trays : Bool
    trays = trays_fit (blocks cut_as) (block_extents cut_as b) j.entries.faces (sizes_of m values kinds lent-blocks lent-numbers lent)

    rungs : (reached_of (job_by j cuts) Closed came b b ≡ 0) × (trays ≡ true)
    unfolding refusal_of
    rungs = let r = or_none (reached_of (job_by j cuts) Closed came b b) _ (sym e) in (r.0, six_passed trays _ r.1)

    passed : FirstTests (job_by j cuts) Closed × (b < blocks cut_as)
    passed = reached_passed (job_by j cuts) Closed came b b rungs.0

    -- what `accept` requires
    pub strain_ready : Ready cut_as came b m values kinds
    strain_ready =
        let l = whole_of (blocks cut_as) (block_extents cut_as b) j.entries.faces (sizes_of m values kinds lent-blocks lent-numbers lent) rungs.1 in
        record {
          ticks = omega (arith, l.3, passed.1);
          whole = record { sized = block_sized cut_as passed.0.good b passed.1; whole = l.0; valued = l.1; kinded = l.2 };
        }

    pub strain_accepted : (v : TotalTables) → v ≡ stored_in cut_as lent-blocks lent-numbers lent b m values kinds → Steps 0 v
    strain_accepted v s t p q =
        let o = told_number 0 e t p q in
        let i = stored_is j cuts came sums counts b m values kinds t passed.0.good passed.1 in
        record { told = o; declined = λ h. absurd (h (sym o)); accepted = λ _. (refl, rw (i, p, q) s) }

-- ---- the act

module _ (j : Job) (cuts : Cuts) (b : ℕ) (r : Block) (T : AnyExtents cuts (λ k. Tells k b r)) (m : List ℕ) (values : List Float) (kinds : List ℕ) where
  abbrev cut_here : Cutting
  cut_here = cutting_of j cuts

  size_is : size_of r ≡ block_extents cut_here b
  size_is = (T cut_here.extents).size

  -- what `sum_block` requires
  pub accept_whole : (came : List ℕ) → Ready cut_here came b m values kinds → Whole (size_of r) m values kinds
  accept_whole came R = rw size_is R.whole

  -- what is left
  pub accept_stored : (table numbers came : List ℕ) (sums : List Float) (counts : List ℕ) (d : Entry) → d ≡ entry_of table b
      → (s : Triple) → AnyDepth cuts.x.now cuts.y.now (λ k. s ≡ starts k b)
      → (sums' : List Float) → sums' ≡ sums_with sums (block_taken (size_of r) s (brought m numbers d.face_from values kinds))
      → (counts' : List ℕ) → counts' ≡ counts_with counts (block_taken (size_of r) s (brought m numbers d.face_from values kinds))
      → total_tables (set came b 1) sums' counts' ≡ stored_in cut_here table numbers (total_tables came sums counts) b m values kinds
  unfolding stored_in adds_in
  accept_stored table numbers came sums counts d f s a sums' p counts' q = rw (p, q, size_is, a cut_here.extents cuts.z.now, f)
