-- What the functions of this crate find on each of their ways, and what their callers learn of the ticks.
-- Assumes nothing.
use mathlib.Core.Path.{◌≡◌, refl, sym, ap, ◌∙◌}
use mathlib.Core.Bool.{Bool, true, false, not, cond, ◌&&◌}
use mathlib.Core.List.{List}
use Prim.Native.Nat.{ℕ, zero, suc, ◌+◌, ◌-◌, ◌*◌, ◌≤◌, ◌<◌}
use native.Mathlib.Nat.{div-div-eq-div-mul}
use native.Mathlib.Numerals.{add-one}
use native.Mathlib.Omega.{arith}
use lib.Dec.{eqb, ltb}
use lib.ListN.{length, get_or-eq_default}
use borrow.Author.Tests.{ltb-true, ltb-false, eqb-true, eqb-false, not-true, not-false, lt-ltb, le-ltb, eq-eqb, ne_eqb}
use Rattle.cells.specs.Box.{triple, place}
use Rattle.cells.specs.declared.Triple.{Triple}
use Rattle.cutting.specs.Cutting.{Cutting, intervals, block_sides, blocks, interval, most_blocks, FewBlocks}
use Rattle.joiner.specs.Job.{Tables, ticked, ticks_per_block}
use Rattle.joiner.specs.Job as joiner
use Rattle.joiner.specs.Stages.{steps_of, next_stage, finished, next_after}
use Rattle.stages.specs.Ticks.{ticked_in, ticked_to, block_ticked, has_next, seam_ticked, seams_ticked, seams_ticked_to}
use Rattle.blocks.specs.Blocks.{cut_by, AnyExtents}
use Rattle.blocks.specs.declared.Cuts.{Cuts}
use Rattle.job.specs.declared.Stage.{Stage}
use Rattle.job.specs.JobState.{stage_of}
use Rattle.lists.proofs.Cases.{by_test, and_both}
use Rattle.stages.proofs.TickLaws.{enrol_finished, crossing_finished, points_finished, seam_finished, seams_none}
use Rattle.blocks.proofs.CodeLaws.{blocks_are}

-- ---- for callers: the ticks of the tables

pub ticked_told : (t : Tables) → ticked t ≡ ticked_in t.ticks
unfolding ticked ticked_in
ticked_told t = refl

-- what `next_stage` answers, of the tables whose ticks it is lent
pub next_told : (k : Cutting) (t : Tables) (s r : joiner.Stage) → r ≡ next_after k (ticked_in t.ticks) s → r ≡ next_after k (ticked t) s
next_told k t s r e = rw (ticked_told t) e

-- ---- one tick

pub tick_past : (l : List ℕ) (i : ℕ) → length l ≤ i → false ≡ ticked_in l i
unfolding ticked_in
tick_past l i h = rw (get_or-eq_default l 0 {n = i} h)

-- ---- walks over the blocks: T tells of the first n blocks, s of one

and_not : (s t : Bool) → t ≡ false → (s && t) ≡ false
and_not true t e = e
and_not false t e = refl

module _ (T s : ℕ → Bool) (next : (b : ℕ) → T (suc b) ≡ (T b && s b)) where
  walk_more : (b : ℕ) (t : Bool) → T b ≡ true → t ≡ s b → not t ≡ false → T (b + 1) ≡ true
  walk_more b t h e n = ap T (add-one b) ∙ next b ∙ and_both (T b) (s b) h (sym e ∙ not-false t n)

  walk_broken : (n b : ℕ) (t : Bool) → b < n → t ≡ s b → not t ≡ true → false ≡ T n
  walk_broken zero b t h e x = absurd (omega arith)
  walk_broken (suc n) b t h e x =
      by_test (eqb b n) (λ q. sym (next n ∙ and_not (T n) (s n) (ap s (sym (eqb-true b n q)) ∙ sym e ∙ not-true t x)))
      (λ q. let d : b ≡ n → ⊥ = eqb-false b n q in sym (next n ∙ rw (sym (walk_broken n b t (omega arith) e x))))

  walk_all : (n b : ℕ) → b ≤ n → n ≤ b → T b ≡ true → true ≡ T n
  walk_all n b h g e = sym (ap T (let q : n ≡ b = omega arith in q) ∙ e)

module _ (l : List ℕ) (column : ℕ) where
  column_next : (b : ℕ) → ticked_to (ticked_in l) column (suc b) ≡ (ticked_to (ticked_in l) column b && ticked_in l (ticks_per_block * b + column))
  unfolding ticked_to
  column_next b = refl

  pub column_none : ticked_to (ticked_in l) column 0 ≡ true
  unfolding ticked_to
  column_none = refl

  pub column_more : (b : ℕ) (t : Bool) → ticked_to (ticked_in l) column b ≡ true → t ≡ ticked_in l (ticks_per_block * b + column) → not t ≡ false → ticked_to (ticked_in l) column (b + 1) ≡ true
  column_more = walk_more (ticked_to (ticked_in l) column) (λ b. ticked_in l (ticks_per_block * b + column)) column_next

  pub column_broken : (n b : ℕ) (t : Bool) → b < n → t ≡ ticked_in l (ticks_per_block * b + column) → not t ≡ true → false ≡ ticked_to (ticked_in l) column n
  column_broken = walk_broken (ticked_to (ticked_in l) column) (λ b. ticked_in l (ticks_per_block * b + column)) column_next

  pub column_all : (n b : ℕ) → b ≤ n → n ≤ b → ticked_to (ticked_in l) column b ≡ true → true ≡ ticked_to (ticked_in l) column n
  column_all = walk_all (ticked_to (ticked_in l) column) (λ b. ticked_in l (ticks_per_block * b + column)) column_next

-- ---- the seams of one block

pub intervals_some : (c : List ℕ) (n : ℕ) → n ≡ intervals c → 1 ≤ n
unfolding intervals
intervals_some c n e = omega arith

pub next_is : (c : List ℕ) (n i : ℕ) → n ≡ intervals c → ltb i (n - 1) ≡ ltb (suc i) (intervals c)
next_is c n i e =
    rw (← e)
    (by_test (ltb i (n - 1)) (λ t. t ∙ sym (lt-ltb (suc i) n (omega (arith, ltb-true i (n - 1) t)))) (λ t. t ∙ sym (le-ltb (suc i) n (omega (arith, ltb-false i (n - 1) t)))))

pub seams_are : (c : Cuts) (l : List ℕ) (b : ℕ) → AnyExtents c (λ k. block_ticked c l b ≡ seams_ticked k (ticked_in l) b)
unfolding block_ticked seams_ticked seam_ticked has_next interval place block_sides
seams_are c l b e = rw (div-div-eq-div-mul b (intervals c.x.now) (intervals c.y.now))

-- ---- the seams of every block

seams_next : (k : Cutting) (l : List ℕ) (b : ℕ) → seams_ticked_to k (ticked_in l) (suc b) ≡ (seams_ticked_to k (ticked_in l) b && seams_ticked k (ticked_in l) b)
unfolding seams_ticked_to
seams_next k l b = refl

module _ (c : Cuts) (l : List ℕ) where
  -- those of the first n blocks
  abbrev pub Walked : ℕ → Bool → Type 0
  Walked n t = AnyExtents c (λ k. seams_ticked_to k (ticked_in l) n ≡ t)

  pub seams_start : Walked 0 true
  unfolding seams_ticked_to
  seams_start e₀ = refl

  pub seams_more : (b : ℕ) (t : Bool) → Walked b true → t ≡ block_ticked c l b → not t ≡ false → Walked (b + 1) true
  seams_more b t h e n e₀ =
      let k : Cutting = cut_by e₀ c in
      walk_more (seams_ticked_to k (ticked_in l)) (seams_ticked k (ticked_in l)) (seams_next k l) b t (h e₀) (e ∙ seams_are c l b e₀) n

  pub seams_broken : (n b : ℕ) (t : Bool) → b < n → t ≡ block_ticked c l b → not t ≡ true → AnyExtents c (λ k. false ≡ seams_ticked_to k (ticked_in l) n)
  seams_broken n b t g e x e₀ =
      let k : Cutting = cut_by e₀ c in
      walk_broken (seams_ticked_to k (ticked_in l)) (seams_ticked k (ticked_in l)) (seams_next k l) n b t g (e ∙ seams_are c l b e₀) x

  pub seams_end : (n b : ℕ) → b ≤ n → n ≤ b → Walked b true → AnyExtents c (λ k. true ≡ seams_ticked_to k (ticked_in l) n)
  seams_end n b g h e e₀ =
      let k : Cutting = cut_by e₀ c in
      walk_all (seams_ticked_to k (ticked_in l)) (seams_ticked k (ticked_in l)) (seams_next k l) n b g h (e e₀)

-- ---- a stage is finished

-- n blocks
abbrev Counted : Cuts → ℕ → Type 0
Counted c n = AnyExtents c (λ k. n ≡ blocks k)

pub few_blocks : (c : Cuts) (n : ℕ) → Counted c n → FewBlocks c.x.now c.y.now c.z.now → n ≤ most_blocks
few_blocks c n e h = let z = triple 0 0 0 in omega (arith, e z, blocks_are (cut_by z c))

module _ (c : Cuts) (l : List ℕ) (stage : Stage) where
  abbrev Finished : Bool → Type 0
  Finished t = AnyExtents c (λ k. t ≡ finished k (ticked_in l) (stage_of stage))

  module _ (n : ℕ) (t : Bool) (e : Counted c n) where
    pub done_enrol : stage ≡ Stage.Enrol → t ≡ ticked_to (ticked_in l) 0 n → Finished t
    done_enrol s h e₀ = rw s (h ∙ rw (e e₀) (sym (enrol_finished (cut_by e₀ c) (ticked_in l))))

    pub done_crossing : stage ≡ Stage.Crossing → t ≡ ticked_to (ticked_in l) 4 n → Finished t
    done_crossing s h e₀ = rw s (h ∙ rw (e e₀) (sym (crossing_finished (cut_by e₀ c) (ticked_in l))))

    pub done_points : stage ≡ Stage.Points → t ≡ ticked_to (ticked_in l) 5 n → Finished t
    done_points s h e₀ = rw s (h ∙ rw (e e₀) (sym (points_finished (cut_by e₀ c) (ticked_in l))))

    pub done_seam : stage ≡ Stage.Seam → AnyExtents c (λ k. t ≡ seams_ticked_to k (ticked_in l) n) → Finished t
    done_seam s h e₀ = rw s (h e₀ ∙ rw (e e₀) (sym (seam_finished (cut_by e₀ c) (ticked_in l))))

  pub done_closed : stage ≡ Stage.Closed → Finished true
  unfolding finished steps_of
  done_closed s e₀ = rw s refl

-- ---- the stage that follows

module _ (c : Cuts) where
  -- .. after enrolment
  module _ (n : ℕ) (e : Counted c n) where
    passed : (e₀ : Triple) (t : Bool) → eqb n 1 ≡ t → next_stage (cut_by e₀ c) joiner.Enrol ≡ cond t joiner.Crossing joiner.Seam
    unfolding next_stage
    passed e₀ t h = rw (seams_none (cut_by e₀ c), ← e e₀, h)

    pub after_one : n ≡ 1 → AnyExtents c (λ k. joiner.Crossing ≡ next_stage k joiner.Enrol)
    after_one h e₀ = sym (passed e₀ true (eq-eqb n 1 h))

    pub after_more : (n ≡ 1 → ⊥) → AnyExtents c (λ k. joiner.Seam ≡ next_stage k joiner.Enrol)
    after_more h e₀ = sym (passed e₀ false (ne_eqb n 1 h))

  module _ (stage : Stage) where
    abbrev Follows : joiner.Stage → Type 0
    Follows s = AnyExtents c (λ k. s ≡ next_stage k (stage_of stage))

    pub follows_enrol : (r : Stage) → stage ≡ Stage.Enrol → AnyExtents c (λ k. stage_of r ≡ next_stage k joiner.Enrol) → Follows (stage_of r)
    follows_enrol r s h e₀ = rw s (h e₀)

    pub follows_seam : stage ≡ Stage.Seam → Follows joiner.Crossing
    unfolding next_stage
    follows_seam s e₀ = rw s refl

    pub follows_crossing : stage ≡ Stage.Crossing → Follows joiner.Points
    unfolding next_stage
    follows_crossing s e₀ = rw s refl

    pub follows_points : stage ≡ Stage.Points → Follows joiner.Closed
    unfolding next_stage
    follows_points s e₀ = rw s refl

    pub follows_closed : stage ≡ Stage.Closed → Follows joiner.Closed
    unfolding next_stage
    follows_closed s e₀ = rw s refl

    -- .. or the same one
    module _ (l : List ℕ) (t : Bool) (e : AnyExtents c (λ k. t ≡ finished k (ticked_in l) (stage_of stage))) where
      pub stage_next : t ≡ true → (r : Stage) → Follows (stage_of r) → AnyExtents c (λ k. stage_of r ≡ next_after k (ticked_in l) (stage_of stage))
      unfolding next_after
      stage_next h r f e₀ = f e₀ ∙ rw (sym (e e₀) ∙ h)

      pub stage_same : t ≡ false → AnyExtents c (λ k. stage_of stage ≡ next_after k (ticked_in l) (stage_of stage))
      unfolding next_after
      stage_same h e₀ = rw (sym (e e₀) ∙ h)
