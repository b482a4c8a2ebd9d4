-- The ways of the functions that open a job, over plain lists and numbers.
-- Assumes nothing.
use mathlib.Core.Path.{◌≡◌, refl, sym, ap, ◌∙◌}
use mathlib.Core.Bool.{Bool, true, ◌&&◌, true≢false}
use mathlib.Core.List.{List, map}
use Prim.Native.Nat.{ℕ, ◌≤◌}
use lib.ListN.{length}
use lib.Ieee.{Float}
use native.Mathlib.Omega.{arith}
use Rattle.std.specs.Prelude.{Result, Ok, Err, IsErr, IsErrAnd}
use Rattle.refusals.specs.declared.Refusal.{Refusal}
use Rattle.refusals.proofs.RefusalLaws.{number_positive}
use Rattle.cells.specs.Box.{triple}
use Rattle.cells.specs.declared.Triple.{Triple}
use Rattle.counts.specs.declared.Counts.{Counts}
use Rattle.blocks.specs.Blocks.{AnyExtents}
use Rattle.blocks.specs.declared.Cuts.{Cuts}
use Rattle.lists.specs.Lists.{zeros}
use Rattle.refusals.specs.Refusals.{number, number_of, table, first, given_by, stands_in}
use Rattle.cutting.specs.Cutting.{Cutting, blocks, good_cut, most_blocks, FewBlocks}
use Rattle.joiner.specs.Job.{Kind, Told, Tables, lengths_fit}
use Rattle.joiner.specs.Outcomes.{all_trays}
use Rattle.joiner.proofs.Kept.{with_ticks}
use Rattle.strains.specs.Units.{plus_zero}
use Rattle.job.specs.declared.Job.{Job}
use Rattle.job.specs.JobState.{told_by, job_by, fresh_job, no_counts, state_by}
use Rattle.job.proofs.JobLaws.{fresh_of, empty_of}
use Rattle.judge.specs.declared.Lengths.{Lengths}
use Rattle.judge.specs.Judge.{lengths_of}
use Rattle.judge.proofs.JudgeLaws.{all_is, few_of, count_few}
use Rattle.strain_calls.specs.Tables.{TotalTables, total_tables, total_trays, zeroed}
use Rattle.strain_calls.specs.Declines.{opening_declines, opening_refusal}
use Rattle.strain_calls.specs.Outcomes.{TotalsOpening}
use Rattle.strain_calls.proofs.OpenLaws.{opening_fits}
use Rattle.step_open.specs.Inner.{tables_fit, refusal_of, job_opened}

-- ---- the tests by lengths are the joiner's

module _ (o : Told) (t : Tables) (w : TotalTables) where
  fitting_is : (lengths_fit (all_trays o t) && lengths_fit (total_trays o w)) ≡ tables_fit (blocks o.cutting) o.entries (lengths_of t) (length w.came) (length w.sums) (length w.counts)
  unfolding total_trays tables_fit
  fitting_is = rw (all_is o t)

  pub refusal_is : opening_refusal o t w ≡ refusal_of o (lengths_of t) (length w.came) (length w.sums) (length w.counts)
  unfolding opening_refusal opening_declines given_by first table number stands_in refusal_of
  refusal_is = rw fitting_is

-- ---- the ladder of refusals

module _ (j : Job) (cuts : Cuts) where
  abbrev e_of : Triple
  e_of = triple j.nx j.ny j.nz

  abbrev k : Cutting
  k = (job_by j cuts).told.cutting

  -- what `block_count` and `tables_fit` require
  module _ (s : Bool) (f : s ≡ good_cut k) (q : s ≡ true) where
    pub few : FewBlocks cuts.x.now cuts.y.now cuts.z.now
    few = few_of k (sym f ∙ q)

    pub few_blocks : (b : ℕ) → AnyExtents cuts (λ k. b ≡ blocks k) → b ≤ most_blocks
    few_blocks b m = count_few k (sym f ∙ q) b (m e_of)

  -- what `tables_fit` answers, told the number of blocks
  pub fitting_of : (n : Kind → ℕ) (z : Lengths) (came sums counts : ℕ) (u : Bool) (b : ℕ) → AnyExtents cuts (λ k. b ≡ blocks k) → u ≡ tables_fit b n z came sums counts
      → u ≡ tables_fit (blocks k) n z came sums counts
  fitting_of n z came sums counts u b m h = rw (← m e_of) h

-- ---- the ways of `open`

-- what `accept` leaves of the tables of readings
pub all_cleared : (came : List ℕ) (sums : List Float) (counts came' : List ℕ) (sums' : List Float) (counts' : List ℕ)
    → came' ≡ zeros (length came) → sums' ≡ map (λ x. plus_zero) sums → counts' ≡ zeros (length counts)
    → total_tables came' sums' counts' ≡ zeroed (total_tables came sums counts)
unfolding zeroed
all_cleared came sums counts came' sums' counts' e f g = rw (e, f, g)

module _ (nx ny nz : ℕ) (cuts : Cuts) (n : Counts) (t : Tables) (w : TotalTables) (j : Job) (e : j ≡ fresh_job nx ny nz n) where
  abbrev told_here : Told
  told_here = told_by nx ny nz cuts.x.now cuts.y.now cuts.z.now n.faces n.curves n.points

  refusal_told : (x : ℕ) → x ≡ refusal_of (job_by j cuts).told (lengths_of t) (length w.came) (length w.sums) (length w.counts) → x ≡ opening_refusal told_here t w
  refusal_told x h = rw (refusal_is told_here t w) (rw e at h)

  pub open_refused : (d : Refusal) → number d ≡ refusal_of (job_by j cuts).told (lengths_of t) (length w.came) (length w.sums) (length w.counts)
      → (r : Result Job Refusal) → IsErr r × IsErrAnd r (λ x. x ≡ d) → TotalsOpening told_here t w (number_of r) (state_by (job_opened r) cuts t) w
  open_refused d h (Ok k) i = absurd (true≢false (sym i.0))
  open_refused d h (Err x) i =
      let told = ap number i.1 ∙ refusal_told (number d) h in
      record {
        told = told;
        declined = λ _. (empty_of (fresh_job 0 0 0 no_counts) refl told_here t, refl);
        opened = λ a. absurd (omega (arith, number_positive x, told ∙ a));
      }

  pub open_accepted : 0 ≡ refusal_of (job_by j cuts).told (lengths_of t) (length w.came) (length w.sums) (length w.counts)
      → (ticks : List ℕ) (v : TotalTables) → (ticks ≡ zeros (length t.ticks)) × (v ≡ zeroed w) → TotalsOpening told_here t w 0 (state_by j cuts (with_ticks t ticks)) v
  open_accepted h ticks v u =
      let a : opening_refusal told_here t w ≡ 0 = sym (refusal_told 0 h) in
      rw e (record {
        told = sym a;
        declined = λ d. absurd (d a);
        opened = λ a. record {
          accepted = a;
          opened = record {
            accepted = (opening_fits told_here t w a).0;
            told = refl;
            fresh = fresh_of nx ny nz n cuts.x.now cuts.y.now cuts.z.now;
            tables = record {
              ticks = u.0;
              blocks = refl;
              links = λ κ. refl;
              keys = λ κ. refl;
              rows = λ κ. refl;
              numbers = λ κ. refl;
              firsts = λ κ. refl;
              listed = λ κ. refl;
            };
          };
          totals = u.1;
        };
      })
