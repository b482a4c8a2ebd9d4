-- The ways of the tests of a crossing step, and that they are the joiner's.
-- Assumes nothing.
use mathlib.Core.Path.{◌≡◌, refl, sym, ap, ◌∙◌}
use mathlib.Core.Bool.{Bool, true, false, not, cond, ◌&&◌, ◌||◌}
use mathlib.Core.List.{List, [], ◌∷◌, map}
use Prim.Native.Nat.{ℕ, zero, suc, ◌≤◌}
use native.Mathlib.Numerals.{add-one}
use lib.Dec.{eqb}
use Rattle.std.specs.List.{list_all, range_with_len}
use Rattle.lists.specs.Lists.{consecutive, all_of}
use Rattle.cutting.specs.Cutting.{Cutting, blocks, good_cut, most_blocks, FewBlocks}
use Rattle.blocks.specs.Blocks.{AnyExtents}
use Rattle.blocks.specs.declared.Cuts.{Cuts}
use Rattle.joiner.specs.Job.{Kind, Face, Curve, State, ticked}
use Rattle.joiner.specs.Stages.{finished, steps_of, crossing_step}
use Rattle.joiner.specs.Calls.{cross}
use Rattle.joiner.specs.Declines.{adds, all_links_stand, last_crossing, links_stand, refusal, rows_stand}
use Rattle.job.specs.declared.Job.{Job}
use Rattle.job.specs.JobState.{job_by}
use Rattle.stages.specs.Ticks.{ticked_in}
use Rattle.judge.specs.declared.CallName.{CallName}
use Rattle.judge.specs.declared.Lengths.{Lengths}
use Rattle.judge.specs.Judge.{lengths_of, judged_of, entry_of}
use Rattle.judge.proofs.JudgeLaws.{few_of, count_few, passed_first, judged_passed, links_is, refusal_judged, rest_none}
use Rattle.judge_cross.specs.Tests.{crossed_but, last_in, rows_in, all_ready, numberable, own_stands, refusal_of}

-- ---- the numbers from i on, as the code's chains go through them

pub all_told : (f : ℕ → Bool) (n i : ℕ) → list_all f (range_with_len i n) ≡ all_of f (consecutive i n)
unfolding consecutive
all_told f zero i = refl
all_told f (suc n) i = ap (λ t. f i && t) (rw add-one (all_told f n (suc i)))

-- ---- what the judge has passed, and what comes after it

module _ (j : Job) (cuts : Cuts) (ticks : List ℕ) (z : Lengths) (table : List ℕ) (b : ℕ) (m : List ℕ) (step : ℕ) (f : step ≡ crossing_step b)
    (passed : 0 ≡ judged_of (job_by j cuts) ticks table CallName.Crossing z b step m) where
  abbrev cut_as : Cutting
  cut_as = (job_by j cuts).told.cutting

  pub cross_good : good_cut cut_as ≡ true
  cross_good = (judged_passed (job_by j cuts) ticks CallName.Crossing z b step table m (sym passed)).first.good

  pub cross_few : FewBlocks cuts.x.now cuts.y.now cuts.z.now
  cross_few = few_of cut_as cross_good

  module _ (i : ℕ) (many : AnyExtents cuts (λ k. i ≡ blocks k)) where
    pub cross_most : i ≤ most_blocks
    cross_most = count_few cut_as cross_good i (many cut_as.extents)

    pub cross_last_lem : (rows fl cl : List ℕ) (u : Bool) → u ≡ own_stands ticks b i (entry_of table b) rows j.entries.faces j.sofar.faces j.sofar.curves fl cl
        → cond (not u) 8 0 ≡ refusal_of (job_by j cuts) ticks z table rows fl cl b m
    unfolding refusal_of
    cross_last_lem rows fl cl u h = rw (← f, ← many cut_as.extents, ← h) (passed_first _ _ (cond (not u) 8 0) passed refl)

-- ---- the tests are the joiner's

all_map : (f : ℕ → Bool) (g : ℕ → ℕ) (l : List ℕ) → all_of f (map g l) ≡ all_of (λ x. f (g x)) l
all_map f g [] = refl
all_map f g (x ∷ l) = ap (λ (t : Bool). f (g x) && t) (all_map f g l)

module _ (s : State) (b : ℕ) (m : List ℕ) where
  abbrev k : Cutting
  k = s.job.told.cutting

  last_is : last_crossing s b ≡ last_in s.tables.ticks b (blocks k)
  unfolding last_crossing finished steps_of ticked ticked_in last_in crossed_but
  last_is = all_map (λ i. eqb (crossing_step b) i || ticked s.tables i) (λ x. crossing_step x) (consecutive 0 (blocks k))

  all_is : cond (last_crossing s b) (rows_stand s && all_links_stand s) true ≡ numberable s.tables.ticks b (blocks k) (s.tables.rows Curve) (s.job.told.entries Face) (s.job.sofar Face) (s.job.sofar Curve) (s.tables.links Face) (s.tables.links Curve)
  unfolding numberable all_ready rows_stand rows_in all_links_stand
  all_is = rw last_is

  pub none_added : (κ : Kind) → adds s (cross b m) κ ≡ 0
  unfolding adds
  none_added κ = refl

  abbrev own : Bool
  own =
      own_stands s.tables.ticks b (blocks k) (entry_of s.tables.blocks b) (s.tables.rows Curve) (s.job.told.entries Face) (s.job.sofar Face) (s.job.sofar Curve)
      (s.tables.links Face) (s.tables.links Curve)

  own_is : (links_stand s b && cond (last_crossing s b) (rows_stand s && all_links_stand s) true) ≡ own
  unfolding own_stands
  own_is = rw (links_is s b, all_is)

  pub refusal_is : refusal s (cross b m) ≡ refusal_of s.job s.tables.ticks (lengths_of s.tables) s.tables.blocks (s.tables.rows Curve) (s.tables.links Face) (s.tables.links Curve) b m
  unfolding refusal_of ticked ticked_in
  refusal_is =
      refusal_judged s (cross b m) refl b m refl (crossing_step b) refl refl (links_stand s b && cond (last_crossing s b) (rows_stand s && all_links_stand s) true) refl ∙
      rest_none s (cross b m) none_added b (crossing_step b) m (links_stand s b && cond (last_crossing s b) (rows_stand s && all_links_stand s) true) false ∙ rw own_is
