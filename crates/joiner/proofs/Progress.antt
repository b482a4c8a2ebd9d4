-- The stages: which steps are done in each, and that the last stage is reached exactly when all are.
-- Assumes nothing.
use mathlib.Core.Bool.{cond, false, true, true≢false}
use mathlib.Core.List.Memᴰ
use mathlib.Core.List.{List, Memᴰ, [], ◌∷◌, map}
use mathlib.Core.Logic.{◌↔◌, ◌≢◌, ◌⊎◌, inl, inr}
use mathlib.Core.Path.{◌∙◌, ◌≡◌, ap, refl, subst, sym}
use Prim.Native.Nat.{◌%◌, ◌*◌, ◌+◌, ◌<◌, ◌≤◌, ℕ}
use native.Mathlib.Nat.{mul-pos}
use native.Mathlib.Omega.{arith}
use lib.Dec.{eqb}
use lib.ListN.{length}
use borrow.Author.Tests.{eqb-false, eqb-true, ne_eqb}
use Rattle.lists.specs.Lists.{all_of, consecutive, is_in, some_of}
use Rattle.closure.specs.Joined.{Edge}
use Rattle.cells.specs.Box.{volume}
use Rattle.cutting.specs.Cutting.{Cutting, block_sides, blocks, intervals}
use Rattle.joiner.specs.Job.{Closed, Crossing, Enrol, Points, Seam, Stage, stage_number, ticks_per_block}
use Rattle.joiner.specs.Stages.{crossing_step, crossing_tick, enrol_step, finished, next_after, next_stage, point_step, point_tick, seam_axis, seam_step, seams, steps_of}
use Rattle.lists.proofs.Cases.{by_test, picked}
use Rattle.lists.proofs.Lists.{consecutive_in}
use Rattle.lists.proofs.Tests.{all_in, all_out, in_is, is_in_lem}
use Rattle.joiner.proofs.SeamSteps.{axis_bound}

-- the stage that a tick of a block belongs to, and that of a step's number
abbrev pub tick_stage : ℕ → ℕ
tick_stage r =
    cond (eqb r 0) (stage_number Enrol) (cond (eqb r crossing_tick) (stage_number Crossing) (cond (eqb r point_tick) (stage_number Points) (stage_number Seam)))

unfoldable pub step_stage : ℕ → ℕ
step_stage i = tick_stage (i % ticks_per_block)

level_at : (i r : ℕ) → i % ticks_per_block ≡ r → step_stage i ≡ tick_stage r
unfolding step_stage
level_at i r e = rw e refl

pub seam_level : (k : Cutting) (d : Edge) → step_stage (seam_step k d) ≡ stage_number Seam
unfolding seam_step step_stage
seam_level k d =
    let a = axis_bound k d.from d.to in
    let r : ℕ = (ticks_per_block * d.from + seam_axis k d.from d.to) % ticks_per_block in
    rw (ne_eqb r 0 (λ e. omega (arith, a)), ne_eqb r crossing_tick (λ e. omega (arith, a)), ne_eqb r point_tick (λ e. omega (arith, a))) refl

pub crossing_level : (b : ℕ) → step_stage (crossing_step b) ≡ stage_number Crossing
crossing_level b = level_at (crossing_step b) crossing_tick (omega arith)

pub point_level : (b : ℕ) → step_stage (point_step b) ≡ stage_number Points
point_level b = level_at (point_step b) point_tick (omega arith)

pub steps_level : (k : Cutting) (s : Stage) {i : ℕ} → Memᴰ i (steps_of k s) → step_stage i ≡ stage_number s
unfolding steps_of
steps_level k Enrol {i} m = let r = Memᴰ.of_map enrol_step (consecutive 0 (blocks k)) m in ap step_stage (sym r.2) ∙ level_at (enrol_step r.0) 0 (omega arith)
steps_level k Seam {i} m = let r = Memᴰ.of_map (seam_step k) (seams k) m in ap step_stage (sym r.2) ∙ seam_level k r.0
steps_level k Crossing {i} m = let r = Memᴰ.of_map crossing_step (consecutive 0 (blocks k)) m in ap step_stage (sym r.2) ∙ crossing_level r.0
steps_level k Points {i} m = let r = Memᴰ.of_map point_step (consecutive 0 (blocks k)) m in ap step_stage (sym r.2) ∙ point_level r.0
steps_level k Closed {i} m = absurd (Memᴰ.not-nil m)

pub record Progress (k : Cutting) (done : List ℕ) (s : Stage) : Type 0 where
  -- only steps of this stage and those before it are done
  pub past : (i : ℕ) → Memᴰ i done → step_stage i ≤ stage_number s
  -- those of the stages before it are all done
  pub all_done : (q : Stage) → stage_number q < stage_number s → (i : ℕ) → Memᴰ i (steps_of k q) → Memᴰ i done
  -- its own are not
  pub not_yet : s ≢ Closed → finished k (is_in done) s ≡ false

-- ---- there is a block

pub some_block : (k : Cutting) → 0 < blocks k
unfolding blocks volume block_sides intervals
some_block k = mul-pos (mul-pos (omega arith) (omega arith)) (omega arith)

pub seams_in : (k : Cutting) → eqb (length (seams k)) 0 ≡ false → (i : ℕ) × Memᴰ i (steps_of k Seam)
unfolding steps_of
seams_in k t = go (seams k) t
  where
    go : (l : List Edge) → eqb (length l) 0 ≡ false → (i : ℕ) × Memᴰ i (map (seam_step k) l)
    go [] e = absurd (eqb-false 0 0 e refl)
    go (d ∷ l) e = (seam_step k d, Memᴰ.head refl)

no_seams : (k : Cutting) → eqb (length (seams k)) 0 ≡ true → steps_of k Seam ≡ []
unfolding steps_of
no_seams k t = go (seams k) t
  where
    go : (l : List Edge) → eqb (length l) 0 ≡ true → map (seam_step k) l ≡ []
    go [] e = refl
    go (d ∷ l) e = absurd (omega (arith, eqb-true (length (d ∷ l)) 0 e))

-- ---- one step more

module _ (k : Cutting) (done : List ℕ) (s : Stage) (P : Progress k done s) (i : ℕ) (hi : Memᴰ i (steps_of k s)) where
  past' : (r : Stage) → stage_number s ≤ stage_number r → (j : ℕ) → Memᴰ j (i ∷ done) → step_stage j ≤ stage_number r
  past' r l j m = go (Memᴰ.cases_cons m)
    where
      go : (j ≡ i) ⊎ Memᴰ j done → step_stage j ≤ stage_number r
      go (inl e) = omega (arith, ap step_stage e, steps_level k s hi)
      go (inr n) = omega (arith, P.past j n)

  advance : (r : Stage) → stage_number s < stage_number r → finished k (is_in (i ∷ done)) s ≡ true
      → ((q : Stage) → stage_number q < stage_number r → (stage_number q < stage_number s) ⊎ ((q ≡ s) ⊎ (steps_of k q ≡ [])))
      → (r ≢ Closed → (j : ℕ) × Memᴰ j (steps_of k r)) → Progress k (i ∷ done) r
  unfolding finished
  advance r l f before some_of = record { past = past' r (omega arith); all_done = full; not_yet = opens }
    where
      full : (q : Stage) → stage_number q < stage_number r → (j : ℕ) → Memᴰ j (steps_of k q) → Memᴰ j (i ∷ done)
      full q h j m = go (before q h)
        where
          go : (stage_number q < stage_number s) ⊎ ((q ≡ s) ⊎ (steps_of k q ≡ [])) → Memᴰ j (i ∷ done)
          go (inl g) = Memᴰ.tail (P.all_done q g j m)
          go (inr (inl e)) = in_is (i ∷ done) (all_out (is_in (i ∷ done)) (steps_of k s) f (subst (λ (z : Stage). Memᴰ j (steps_of k z)) e m))
          go (inr (inr e)) = absurd (Memᴰ.not-nil (subst (Memᴰ j) e m))

      opens : r ≢ Closed → all_of (is_in (i ∷ done)) (steps_of k r) ≡ false
      opens n =
          by_test (all_of (is_in (i ∷ done)) (steps_of k r))
          (λ t.
          let j = some_of n in
          absurd (omega (arith, past' s (omega arith) j.0 (in_is (i ∷ done) (all_out (is_in (i ∷ done)) (steps_of k r) t j.1)), steps_level k r j.1)))
          (λ t. t)

  stays : finished k (is_in (i ∷ done)) s ≡ false → Progress k (i ∷ done) s
  stays f = record { past = past' s (omega arith); all_done = λ q l j m. Memᴰ.tail (P.all_done q l j m); not_yet = λ n. f }

block_step : (k : Cutting) (f : ℕ → ℕ) → (j : ℕ) × Memᴰ j (map f (consecutive 0 (blocks k)))
block_step k f = (f 0, Memᴰ.map f (consecutive_in 0 (blocks k) (omega arith) (omega (arith, some_block k))))

pub progress_more : (k : Cutting) (done : List ℕ) (s : Stage) → Progress k done s → (i : ℕ) → Memᴰ i (steps_of k s) → Progress k (i ∷ done) (next_after k (is_in (i ∷ done)) s)
unfolding next_after next_stage steps_of
progress_more k done s P i hi =
    picked (Progress k (i ∷ done)) (finished k (is_in (i ∷ done)) s) (next_stage k s) s (λ f. go s P hi f) (λ f. stays k done s P i hi f)
  where
    crossing_some : Crossing ≢ Closed → (j : ℕ) × Memᴰ j (steps_of k Crossing)
    crossing_some n = block_step k crossing_step

    points_some : Points ≢ Closed → (j : ℕ) × Memᴰ j (steps_of k Points)
    points_some n = block_step k point_step

    go : (s : Stage) → Progress k done s → Memᴰ i (steps_of k s) → finished k (is_in (i ∷ done)) s ≡ true → Progress k (i ∷ done) (next_stage k s)
    go Enrol P hi f =
        picked (Progress k (i ∷ done)) (eqb (length (seams k)) 0) Crossing Seam
        (λ t. advance k done Enrol P i hi Crossing (omega arith) f (elim [ Enrol ↦ λ h. inr (inl refl) | Seam ↦ λ h. inr (inr (no_seams k t)) | Crossing ↦ λ h. absurd (omega arith) | Points ↦ λ h. absurd (omega arith) | Closed ↦ λ h. absurd (omega arith) ]) crossing_some)
        (λ t. advance k done Enrol P i hi Seam (omega arith) f (elim [ Enrol ↦ λ h. inr (inl refl) | Seam ↦ λ h. absurd (omega arith) | Crossing ↦ λ h. absurd (omega arith) | Points ↦ λ h. absurd (omega arith) | Closed ↦ λ h. absurd (omega arith) ]) (λ n. seams_in k t))
    go Seam P hi f = advance k done Seam P i hi Crossing (omega arith) f (elim [ Enrol ↦ λ h. inl (omega arith) | Seam ↦ λ h. inr (inl refl) | Crossing ↦ λ h. absurd (omega arith) | Points ↦ λ h. absurd (omega arith) | Closed ↦ λ h. absurd (omega arith) ]) crossing_some
    go Crossing P hi f = advance k done Crossing P i hi Points (omega arith) f (elim [ Enrol ↦ λ h. inl (omega arith) | Seam ↦ λ h. inl (omega arith) | Crossing ↦ λ h. inr (inl refl) | Points ↦ λ h. absurd (omega arith) | Closed ↦ λ h. absurd (omega arith) ]) points_some
    go Points P hi f = advance k done Points P i hi Closed (omega arith) f (elim [ Enrol ↦ λ h. inl (omega arith) | Seam ↦ λ h. inl (omega arith) | Crossing ↦ λ h. inl (omega arith) | Points ↦ λ h. inr (inl refl) | Closed ↦ λ h. absurd (omega arith) ]) (λ n. absurd (n refl))
    go Closed P hi f = absurd (Memᴰ.not-nil hi)

-- ---- the start, and the end

pub progress_start : (k : Cutting) → Progress k [] Enrol
unfolding finished
progress_start k = record { past = λ i m. absurd (Memᴰ.not-nil m); all_done = λ q l. absurd (omega arith); not_yet = λ n. by_test (all_of (is_in []) (steps_of k Enrol)) (λ t. absurd (nothing t)) (λ t. t) }
  where
    nothing : all_of (is_in []) (steps_of k Enrol) ≡ true → ⊥
    nothing t = let j : (i : ℕ) × Memᴰ i (steps_of k Enrol) = unfold steps_of in block_step k enrol_step in Memᴰ.not-nil (in_is [] (all_out (is_in []) (steps_of k Enrol) t j.1))

-- a stage has a number
pub closed_is : (s : Stage) → (s ≡ Closed) ⊎ (s ≢ Closed)
closed_is Enrol = inr (λ e. absurd (omega (arith, ap stage_number e)))
closed_is Seam = inr (λ e. absurd (omega (arith, ap stage_number e)))
closed_is Crossing = inr (λ e. absurd (omega (arith, ap stage_number e)))
closed_is Points = inr (λ e. absurd (omega (arith, ap stage_number e)))
closed_is Closed = inl refl

no_closed : (k : Cutting) (i : ℕ) → Memᴰ i (steps_of k Closed) → ⊥
unfolding steps_of
no_closed k i m = Memᴰ.not-nil m

-- the job is closed exactly when all its steps are done
pub closed_all : (k : Cutting) (done : List ℕ) (s : Stage) → Progress k done s → (s ≡ Closed) ↔ ((q : Stage) (i : ℕ) → Memᴰ i (steps_of k q) → Memᴰ i done)
unfolding finished
closed_all k done s P = (to, from)
  where
    to : s ≡ Closed → (q : Stage) (i : ℕ) → Memᴰ i (steps_of k q) → Memᴰ i done
    to e q i m = go (closed_is q)
      where
        below : (q : Stage) → q ≢ Closed → stage_number q < stage_number Closed
        below Enrol n = omega arith
        below Seam n = omega arith
        below Crossing n = omega arith
        below Points n = omega arith
        below Closed n = absurd (n refl)

        go : (q ≡ Closed) ⊎ (q ≢ Closed) → Memᴰ i done
        go (inl c) = absurd (no_closed k i (subst (λ (z : Stage). Memᴰ i (steps_of k z)) c m))
        go (inr n) = P.all_done q (rw e (below q n)) i m

    from : ((q : Stage) (i : ℕ) → Memᴰ i (steps_of k q) → Memᴰ i done) → s ≡ Closed
    from h = go (closed_is s)
      where
        go : (s ≡ Closed) ⊎ (s ≢ Closed) → s ≡ Closed
        go (inl e) = e
        go (inr n) = absurd (true≢false (sym (all_in (is_in done) (steps_of k s) (λ i m. is_in_lem done (h s i m))) ∙ P.not_yet n))
