-- The ways of the tests of a point step, and that they are the joiner's.
-- Assumes nothing.
use mathlib.Core.Path.{◌≡◌, refl, sym, ap, ◌∙◌}
use mathlib.Core.Bool.{Bool, true, false, not, cond, ◌&&◌, true≢false}
use mathlib.Core.List.{List}
use Prim.Native.Nat.{ℕ, zero, suc, ◌+◌, ◌≤◌, ◌<◌}
use native.Mathlib.Omega.{arith}
use lib.Dec.{ltb}
use lib.ListN.{length}
use borrow.Author.Tests.{lt-ltb, le-ltb}
use native.Mathlib.Numerals.{add-one}
use Rattle.std.specs.List.{list_all, range_with_len}
use Rattle.std.specs.Prelude.{Result, Ok, Err, IsErr, IsErrAnd}
use Rattle.refusals.specs.declared.Refusal.{Refusal}
use Rattle.refusals.specs.Refusals.{number, number_of}
use Rattle.lists.specs.Lists.{consecutive, all_of}
use Rattle.cells.specs.declared.Triple.{Triple}
use Rattle.cells.specs.Extents.{Sized}
use Rattle.cells.specs.Grid.{cells}
use Rattle.cutting.specs.Cutting.{Cutting, block_extents}
use Rattle.joiner.specs.Job.{Kind, Face, Curve, Point, State, count_of, from_of, ticked}
use Rattle.joiner.specs.Stages.{point_step}
use Rattle.joiner.specs.Calls.{point, full, overfull}
use Rattle.joiner.specs.Declines.{adds, curves_stand, number_stands, refusal, tallies_fit}
use Rattle.joiner.proofs.Passed.{tally_fits_lem}
use Rattle.blocks.specs.Blocks.{Tells, AnyExtents}
use Rattle.blocks.specs.declared.Block.{Block}
use Rattle.blocks.specs.declared.Cuts.{Cuts}
use Rattle.pass_point.specs.FoundPoints.{found_cells}
use Rattle.pass_point.proofs.FoundLaws.{found_cells_lem}
use Rattle.job.specs.declared.Job.{Job}
use Rattle.job.specs.JobState.{AnyCuts, job_by, job_of}
use Rattle.stages.specs.Ticks.{ticked_in}
use Rattle.judge.specs.declared.CallName.{CallName}
use Rattle.judge.specs.declared.Lengths.{Lengths}
use Rattle.judge.specs.declared.Entry.{Entry}
use Rattle.judge.specs.Judge.{lengths_of, judged_of, entry_of, number_stands_in}
use Rattle.judge.proofs.JudgeLaws.{refused_first, passed_first, judged_passed, block_sized, refusal_judged, judged_same}
use Rattle.judge_point.specs.Tests.{curves_in, found_by, late_of, found_of, refusal_of, Plans}

-- ---- the numbers from i on, as the code's chain goes through them

pub all_told : (f : ℕ → Bool) (n i : ℕ) → list_all f (range_with_len i n) ≡ all_of f (consecutive i n)
unfolding consecutive
all_told f zero i = refl
all_told f (suc n) i = ap (λ t. f i && t) (rw add-one (all_told f n (suc i)))

-- ---- what is refused, and what is counted

module _ (j : Job) (e : Triple) (d : Entry) (curves m : List ℕ) (u : Bool) (i : u ≡ curves_in curves j.numbered.curves d.curve_from d.curves) where
  abbrev Late : Result ℕ Refusal → Type 0
  Late r = AnyCuts (λ cx cy cz. Plans (late_of (job_of j cx cy cz) e d curves m) (found_by e d curves m) r)

  pub late_stray : u ≡ false → Late (Err Refusal.StrayLabel)
  unfolding late_of number
  late_stray p cx cy cz = record { told = rw (sym i ∙ p); counted = tt }

  module _ (p : u ≡ true) (n : ℕ) (f : n ≡ length (found_cells e curves d.curve_from m)) where
    pub late_full : j.entries.points < j.sofar.points + n → Late (Err Refusal.TableFull)
    unfolding late_of found_by number
    late_full l cx cy cz = record { told = rw (sym i ∙ p, ← f, lt-ltb j.entries.points (j.sofar.points + n) l); counted = tt }

    pub late_found : j.sofar.points + n ≤ j.entries.points → Late (Ok n)
    unfolding late_of found_by
    late_found l cx cy cz = record { told = rw (sym i ∙ p, ← f, le-ltb j.entries.points (j.sofar.points + n) l); counted = f }

-- ---- the ways of `judge_points`

module _ (j : Job) (cuts : Cuts) (ticks : List ℕ) (z : Lengths) (table curves : List ℕ) (b : ℕ) (m : List ℕ) where
  abbrev k : Cutting
  k = (job_by j cuts).told.cutting

  abbrev judged : ℕ
  judged = judged_of (job_by j cuts) ticks table CallName.Points z b (point_step b) m

  abbrev Judges : Result ℕ Refusal → Type 0
  Judges r = Plans (refusal_of (job_by j cuts) ticks z table curves b m) (found_of k table curves b m) r

  pub points_first : (d : Refusal) → number d ≡ judged → (r : Result ℕ Refusal) → IsErr r × IsErrAnd r (λ x. x ≡ d) → Judges r
  unfolding refusal_of
  points_first d q (Ok n) h = absurd (true≢false (sym h.0))
  points_first d q (Err x) h = record { told = refused_first x _ _ (ap number h.1 ∙ q); counted = tt }

  module _ (q : 0 ≡ judged) (r : Block) (T : AnyExtents cuts (λ k. Tells k b r)) where
    tells : Tells k b r
    tells = T k.extents

    -- what `late` requires
    pub points_map : Sized 64 r.size × (length m ≡ cells r.size)
    points_map =
        let p = judged_passed (job_by j cuts) ticks CallName.Points z b (point_step b) table m (sym q) in
        (block_sized k p.first.good b p.there r tells, p.whole ∙ ap cells (sym tells.size))

    pub points_late : (p : Result ℕ Refusal) → AnyCuts (λ cx cy cz. Plans (late_of (job_of j cx cy cz) r.size (entry_of table b) curves m) (found_by r.size (entry_of table b) curves m) p)
        → Judges p
    unfolding refusal_of found_of
    points_late p L =
        let l = rw tells.size at (L k.cx k.cy k.cz) in
        record { told = passed_first _ _ (number_of p) q l.told; counted = l.counted }

-- ---- the tests are the joiner's

-- 10 by the points alone, where the tallies fit
full_points : (s : State) (b : ℕ) (m : List ℕ) → tallies_fit s.job ≡ true
    → full s.job.told.entries s.job.sofar (adds s (point b m)) ≡ ltb (s.job.told.entries Point) (s.job.sofar Point + adds s (point b m) Point)
unfolding full overfull adds
full_points s b m t =
    let h : (κ : Kind) → s.job.sofar κ ≤ s.job.told.entries κ = tally_fits_lem s.job t in
    rw (le-ltb (s.job.told.entries Face) (s.job.sofar Face + 0) (omega (arith, h Face)), le-ltb (s.job.told.entries Curve) (s.job.sofar Curve + 0) (omega (arith, h Curve)))

module _ (s : State) (b : ℕ) (m : List ℕ) where
  abbrev cut_as : Cutting
  cut_as = s.job.told.cutting

  pub place_is : from_of s.tables Curve b ≡ (entry_of s.tables.blocks b).curve_from
  unfolding from_of entry_of
  place_is = refl

  pub found_is : found_of cut_as s.tables.blocks (s.tables.numbers Curve) b m ≡ adds s (point b m) Point
  unfolding found_of found_by adds
  found_is = ap length (found_cells_lem cut_as s.tables b m refl refl place_is)

  curves_is : curves_stand s b ≡ curves_in (s.tables.numbers Curve) (s.job.numbered Curve) (entry_of s.tables.blocks b).curve_from (entry_of s.tables.blocks b).curves
  unfolding curves_stand curves_in number_stands number_stands_in from_of count_of entry_of
  curves_is = refl

  late_is : tallies_fit s.job ≡ true → ◌≡◌ {A = ℕ} (cond (not (curves_stand s b)) 8 (cond (full s.job.told.entries s.job.sofar (adds s (point b m))) 10 0))
      (late_of s.job (block_extents cut_as b) (entry_of s.tables.blocks b) (s.tables.numbers Curve) m)
  unfolding late_of found_of
  late_is t = rw (← curves_is, found_is, full_points s b m t)

  pub refusal_is : refusal s (point b m) ≡ refusal_of s.job s.tables.ticks (lengths_of s.tables) s.tables.blocks (s.tables.numbers Curve) b m
  unfolding refusal_of ticked ticked_in
  refusal_is = refusal_judged s (point b m) refl b m refl (point_step b) refl refl (curves_stand s b) refl ∙ judged_same s (point b m) b (point_step b) m _ _ late_is
