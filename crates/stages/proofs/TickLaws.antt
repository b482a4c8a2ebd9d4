-- A stage is finished exactly when the walk over its blocks says so.
-- Assumes nothing.
use mathlib.Core.Bool.{Bool, ◌&&◌, false, true}
use mathlib.Core.List.Memᴰ
use mathlib.Core.List.{List, Memᴰ, [], ◌∷◌, map}
use mathlib.Core.Logic.{◌≢◌}
use mathlib.Core.Path.{◌∙◌, ◌≡◌, ap, ap₂, refl, sym}
use Prim.Native.Nat.{◌%◌, ◌*◌, ◌+◌, ◌<◌, ◌≤◌, suc, zero, ℕ}
use native.Mathlib.Nat.{zero-div, zero-mod}
use native.Mathlib.Omega.{arith}
use lib.Dec.{eqb, ltb}
use lib.ListN.{length}
use borrow.Author.Tests.{eq-eqb, eqb-false, eqb-true, lt-ltb, ltb-false, ltb-true, ne_eqb}
use Rattle.lists.specs.Lists.{all_of, consecutive}
use Rattle.closure.specs.Joined.{Edge, edge}
use Rattle.cells.specs.Box.{coord, index, place, volume}
use Rattle.cells.specs.declared.Axis.{Axis}
use Rattle.cells.specs.declared.Axis.TheVariants.{X, Y, Z}
use Rattle.cells.specs.declared.Triple.{Triple}
use Rattle.cutting.specs.Cutting.{Cutting, block_sides, blocks, cuts, follows, interval, intervals, seam}
use Rattle.joiner.specs.Job.{Crossing, Enrol, Points, Seam, column, ticks_per_block}
use Rattle.joiner.specs.Stages.{crossing_step, enrol_step, finished, point_step, products, seam_axis, seam_step, seams, steps_of}
use Rattle.layers.specs.Layers.{axis_of}
use Rattle.blocks.specs.Blocks.{axis_number}
use Rattle.stages.specs.Ticks.{has_next, seam_ticked, seams_ticked, seams_ticked_to, ticked_to}
use Rattle.lists.proofs.Cases.{and_both, and_first, and_second, by_test, same_test}
use Rattle.lists.proofs.Lists.{consecutive_in, consecutive_out, keep_in, keep_out}
use Rattle.lists.proofs.Tests.{all_in, all_out, implied, implies}
use Rattle.cells.proofs.BoxLaws.{Inside, place_inside, raised}
use Rattle.cells.proofs.GridLaws.{raised_inside}
use Rattle.cutting.proofs.CutLaws.{block_in, block_sides_on, interval_at, interval_is}
use Rattle.cutting.proofs.SeamLaws.{seam_raised}
use Rattle.joiner.proofs.Progress.{some_block}
use Rattle.joiner.proofs.SeamSteps.{axis_bound, seam_in}
use Rattle.joiner.proofs.Shared.{products_in, seam_listed}
use Rattle.layers.proofs.LayerLaws.{Follows, seam_follows, step_on}

-- ---- one step for each block

ticked_at : (f : ℕ → Bool) (column n : ℕ) → ticked_to f column n ≡ true → (b : ℕ) → b < n → f (ticks_per_block * b + column) ≡ true
unfolding ticked_to
ticked_at f column zero e b h = absurd (omega arith)
ticked_at f column (suc n) e b h =
    by_test (eqb b n)
    (λ t. ap (λ (x : ℕ). f (ticks_per_block * x + column)) (eqb-true b n t) ∙ and_second (ticked_to f column n) (f (ticks_per_block * n + column)) e)
    (λ t. let d : b ≢ n = eqb-false b n t in ticked_at f column n (and_first (ticked_to f column n) (f (ticks_per_block * n + column)) e) b (omega arith))

ticked_all : (f : ℕ → Bool) (column n : ℕ) → ((b : ℕ) → b < n → f (ticks_per_block * b + column) ≡ true) → ticked_to f column n ≡ true
unfolding ticked_to
ticked_all f column zero h = refl
ticked_all f column (suc n) h = and_both (ticked_to f column n) (f (ticks_per_block * n + column)) (ticked_all f column n (λ b l. h b (omega arith))) (h n (omega arith))

-- the steps of all blocks in one column
column_ticked : (f : ℕ → Bool) (g : ℕ → ℕ) (column n : ℕ) → ((b : ℕ) → g b ≡ ticks_per_block * b + column) → all_of f (map g (consecutive 0 n)) ≡ ticked_to f column n
column_ticked f g column n e =
    same_test _ _
    (λ t. ticked_all f column n (λ b h. ap f (sym (e b)) ∙ all_out f (map g (consecutive 0 n)) t (Memᴰ.map g (consecutive_in 0 n (omega arith) (omega (arith, h))))))
    (λ t. all_in f (map g (consecutive 0 n)) (λ i m. let r = Memᴰ.of_map g (consecutive 0 n) m in ap f (sym r.2 ∙ e r.0) ∙ ticked_at f column n t r.0 (omega (arith, consecutive_out 0 n r.1))))

pub enrol_finished : (k : Cutting) (f : ℕ → Bool) → finished k f Enrol ≡ ticked_to f 0 (blocks k)
unfolding finished steps_of
enrol_finished k f = column_ticked f enrol_step 0 (blocks k) (λ b. omega arith)

pub crossing_finished : (k : Cutting) (f : ℕ → Bool) → finished k f Crossing ≡ ticked_to f 4 (blocks k)
unfolding finished steps_of
crossing_finished k f = column_ticked f crossing_step 4 (blocks k) (λ b. refl)

pub points_finished : (k : Cutting) (f : ℕ → Bool) → finished k f Points ≡ ticked_to f 5 (blocks k)
unfolding finished steps_of
points_finished k f = column_ticked f point_step 5 (blocks k) (λ b. refl)

-- ---- seams

-- the next block along an axis
module _ (k : Cutting) (b : ℕ) (hb : b < blocks k) (a : Axis) (h : has_next k b a ≡ true) where
  abbrev next_place : Triple
  next_place = raised a (place (block_sides k) b)

  up_inside : Inside (block_sides k) next_place
  unfolding has_next blocks
  up_inside = raised_inside (block_sides k) (place (block_sides k) b) a (place_inside (block_sides k) b hb) (omega (arith, ltb-true (suc (interval k b a)) (intervals (cuts k a)) h, interval_is k b a, block_sides_on k a))

  next_block : ℕ
  next_block = index (block_sides k) next_place

  next_at_lem : (d : Axis) → interval k next_block d ≡ coord next_place d
  unfolding next_block
  next_at_lem d = interval_at k next_place up_inside d

  next_seam : seam k b next_block ≡ true
  unfolding next_block
  next_seam = seam_raised k b next_block a hb (block_in k next_place up_inside) next_at_lem

  -- .. which is a seam along this axis
  next_step : seam_step k (edge b next_block) ≡ ticks_per_block * b + axis_number a
  unfolding seam_step
  next_step = ap (λ (x : ℕ). ticks_per_block * b + x) (axis a next_at')
    where
      next_at' : (d : Axis) → interval k next_block d ≡ coord (raised a (place (block_sides k) b)) d
      next_at' d = next_at_lem d

      same_on : (d : Axis) → interval k b d ≡ coord (place (block_sides k) b) d
      same_on d = interval_is k b d

      axis : (a : Axis) → ((d : Axis) → interval k next_block d ≡ coord (raised a (place (block_sides k) b)) d) → seam_axis k b next_block ≡ axis_number a
      axis X n = unfold seam_axis follows raised in rw (eq-eqb (interval k next_block X) (suc (interval k b X)) (n X ∙ ap suc (sym (same_on X)))) refl
      axis Y n = unfold seam_axis follows raised in
          rw (ne_eqb (interval k next_block X) (suc (interval k b X)) (λ e. absurd (omega (arith, e, n X, same_on X))), eq-eqb (interval k next_block Y) (suc (interval k b Y)) (n Y ∙ ap suc (sym (same_on Y)))) refl
      axis Z n = unfold seam_axis follows raised in
          rw (ne_eqb (interval k next_block X) (suc (interval k b X)) (λ e. absurd (omega (arith, e, n X, same_on X))), ne_eqb (interval k next_block Y) (suc (interval k b Y)) (λ e. absurd (omega (arith, e, n Y, same_on Y)))) refl

-- a seam's lower block has a next one along its axis
module _ (k : Cutting) (b c : ℕ) (z : seam k b c ≡ true) where
  abbrev a₀ : Axis
  a₀ = axis_of (seam_axis k b c)

  follows_on : Follows k b c a₀
  follows_on = seam_follows k b c z

  axis_is : axis_number a₀ ≡ seam_axis k b c
  axis_is = go (seam_axis k b c) (axis_bound k b c)
    where
      go : (n : ℕ) → (0 < n) × (n ≤ 3) → axis_number (axis_of n) ≡ n
      go zero h = absurd (omega (arith, h))
      go (suc zero) h = unfold axis_of in refl
      go (suc (suc zero)) h = unfold axis_of in refl
      go (suc (suc (suc zero))) h = unfold axis_of in refl
      go (suc (suc (suc (suc n)))) h = absurd (omega (arith, h))

  next_along : interval k c a₀ ≡ suc (interval k b a₀)
  next_along = follows_on.on a₀ ∙ one a₀
    where
      one : (a : Axis) → interval k b a + step_on a a ≡ suc (interval k b a)
      one X = omega arith
      one Y = omega arith
      one Z = omega arith

  lower_next : has_next k b a₀ ≡ true
  unfolding has_next blocks
  lower_next =
      lt-ltb (suc (interval k b a₀)) (intervals (cuts k a₀))
      (omega (arith, next_along, interval_is k c a₀, block_sides_on k a₀, place_inside (block_sides k) c follows_on.upper_in a₀))

step_number : (k : Cutting) (d : Edge) → seam_step k d ≡ ticks_per_block * d.from + seam_axis k d.from d.to
unfolding seam_step
step_number k d = refl

seams_at : (k : Cutting) (f : ℕ → Bool) (n : ℕ) → seams_ticked_to k f n ≡ true → (b : ℕ) → b < n → seams_ticked k f b ≡ true
unfolding seams_ticked_to
seams_at k f zero e b h = absurd (omega arith)
seams_at k f (suc n) e b h =
    by_test (eqb b n)
    (λ t. ap (seams_ticked k f) (eqb-true b n t) ∙ and_second (seams_ticked_to k f n) (seams_ticked k f n) e)
    (λ t. let d : b ≢ n = eqb-false b n t in seams_at k f n (and_first (seams_ticked_to k f n) (seams_ticked k f n) e) b (omega arith))

seams_all : (k : Cutting) (f : ℕ → Bool) (n : ℕ) → ((b : ℕ) → b < n → seams_ticked k f b ≡ true) → seams_ticked_to k f n ≡ true
unfolding seams_ticked_to
seams_all k f zero h = refl
seams_all k f (suc n) h = and_both (seams_ticked_to k f n) (seams_ticked k f n) (seams_all k f n (λ b l. h b (omega arith))) (h n (omega arith))

seam_implied : (k : Cutting) (f : ℕ → Bool) (b : ℕ) (a : Axis) → seam_ticked k f b a ≡ true → has_next k b a ≡ true → f (ticks_per_block * b + axis_number a) ≡ true
unfolding seam_ticked
seam_implied k f b a s h = implied (has_next k b a) (f (ticks_per_block * b + axis_number a)) s h

-- the three axes of a block
axes_out : (k : Cutting) (f : ℕ → Bool) (b : ℕ) → seams_ticked k f b ≡ true → (a : Axis) → seam_ticked k f b a ≡ true
unfolding seams_ticked
axes_out k f b e X = and_first (seam_ticked k f b X) (seam_ticked k f b Y && seam_ticked k f b Z) e
axes_out k f b e Y = and_first (seam_ticked k f b Y) (seam_ticked k f b Z) (and_second (seam_ticked k f b X) (seam_ticked k f b Y && seam_ticked k f b Z) e)
axes_out k f b e Z = and_second (seam_ticked k f b Y) (seam_ticked k f b Z) (and_second (seam_ticked k f b X) (seam_ticked k f b Y && seam_ticked k f b Z) e)

pub seam_finished : (k : Cutting) (f : ℕ → Bool) → finished k f Seam ≡ seams_ticked_to k f (blocks k)
unfolding finished steps_of
seam_finished k f = same_test _ _ there back
  where
    there : all_of f (map (seam_step k) (seams k)) ≡ true → seams_ticked_to k f (blocks k) ≡ true
    there t =
        seams_all k f (blocks k)
        (λ b hb.
        unfold seams_ticked in
        and_both (seam_ticked k f b X) (seam_ticked k f b Y && seam_ticked k f b Z) (one b hb X) (and_both (seam_ticked k f b Y) (seam_ticked k f b Z) (one b hb Y) (one b hb Z)))
      where
        one : (b : ℕ) → b < blocks k → (a : Axis) → seam_ticked k f b a ≡ true
        one b hb a =
            unfold seam_ticked in
            implies (has_next k b a) (f (ticks_per_block * b + axis_number a))
            (λ h. ap f (sym (next_step k b hb a h)) ∙ all_out f (map (seam_step k) (seams k)) t (unfold steps_of in seam_in k b (next_block k b hb a h) (next_seam k b hb a h)))

    back : seams_ticked_to k f (blocks k) ≡ true → all_of f (map (seam_step k) (seams k)) ≡ true
    back t =
        all_in f (map (seam_step k) (seams k))
        (λ i m.
        let r = Memᴰ.of_map (seam_step k) (seams k) m in
        ap f (sym r.2) ∙ of_seam r.0 r.1)
      where
        of_seam : (d : Edge) → Memᴰ d (seams k) → f (seam_step k d) ≡ true
        of_seam d m =
            let z : seam k d.from d.to ≡ true = (unfold seams in (keep_out (λ d. seam k d.from d.to) (products (consecutive 0 (blocks k)) (consecutive 0 (blocks k))) m).1) in
            let s : seam_ticked k f d.from (axis_of (seam_axis k d.from d.to)) ≡ true = axes_out k f d.from (seams_at k f (blocks k) t d.from (seam_listed k d.from d.to z).0) (axis_of (seam_axis k d.from d.to)) in
            ap f (step_number k d ∙ ap (λ (n : ℕ). ticks_per_block * d.from + n) (sym (axis_is k d.from d.to z)))
            ∙ seam_implied k f d.from (axis_of (seam_axis k d.from d.to)) s (lower_next k d.from d.to z)

-- ---- "a stage without steps is passed over"

no_members : (l : List Edge) → ((d : Edge) → Memᴰ d l → ⊥) → length l ≡ 0
no_members [] h = refl
no_members (d ∷ l) h = absurd (h d (Memᴰ.head refl))

a_member : (l : List Edge) {d : Edge} → Memᴰ d l → 0 < length l
a_member [] m = absurd (Memᴰ.not-nil m)
a_member (d ∷ l) m = omega arith

first_interval : (k : Cutting) (a : Axis) → interval k 0 a ≡ 0
unfolding interval place
first_interval k X = zero-mod (block_sides k).x
first_interval k Y = ap (λ (n : ℕ). n % (block_sides k).y) (zero-div (block_sides k).x) ∙ zero-mod (block_sides k).y
first_interval k Z = zero-div ((block_sides k).x * (block_sides k).y)

some_next : (k : Cutting) → blocks k ≢ 1 → (a : Axis) × (1 < intervals (cuts k a))
unfolding blocks volume block_sides intervals
some_next k n =
    by_test (ltb 1 (intervals (cuts k X))) (λ t. (X, ltb-true _ _ t))
    (λ t. by_test (ltb 1 (intervals (cuts k Y))) (λ u. (Y, ltb-true _ _ u))
    (λ u. by_test (ltb 1 (intervals (cuts k Z))) (λ v. (Z, ltb-true _ _ v))
    (λ v. absurd (n (ap₂ (λ (x y : ℕ). x * y) (ap₂ (λ (x y : ℕ). x * y) (one X t) (one Y u)) (one Z v))))))
  where
    one : (a : Axis) → ltb 1 (intervals (cuts k a)) ≡ false → intervals (cuts k a) ≡ 1
    one a t = omega (arith, ltb-false 1 (intervals (cuts k a)) t)

-- there is no seam exactly where there is one block
pub seams_none : (k : Cutting) → eqb (length (seams k)) 0 ≡ eqb (blocks k) 1
seams_none k =
    by_test (eqb (blocks k) 1)
    (λ t. eq-eqb (length (seams k)) 0 (no_members (seams k) (λ d m. alone (eqb-true _ _ t) d m)) ∙ sym t)
    (λ t.
    let w = some_next k (eqb-false _ _ t) in
    let h : has_next k 0 w.0 ≡ true = (unfold has_next in lt-ltb (suc (interval k 0 w.0)) (intervals (cuts k w.0)) (omega (arith, first_interval k w.0, w.1))) in
    let hb : 0 < blocks k = some_block k in
    ne_eqb (length (seams k)) 0 (λ e. absurd (omega (arith, e, a_member (seams k) (in_seams k 0 (next_block k 0 hb w.0 h) (next_seam k 0 hb w.0 h))))) ∙ sym t)
  where
    in_seams : (k : Cutting) (b c : ℕ) → seam k b c ≡ true → Memᴰ (edge b c) (seams k)
    in_seams k b c z =
        let l = seam_listed k b c z in
        unfold seams in
        keep_in (λ d. seam k d.from d.to) (products (consecutive 0 (blocks k)) (consecutive 0 (blocks k)))
        (products_in _ _ (consecutive_in 0 (blocks k) (omega arith) (omega (arith, l.0))) (consecutive_in 0 (blocks k) (omega arith) (omega (arith, l.1)))) z

    alone : blocks k ≡ 1 → (d : Edge) → Memᴰ d (seams k) → ⊥
    alone e d m =
        let z : seam k d.from d.to ≡ true = (unfold seams in (keep_out (λ d. seam k d.from d.to) (products (consecutive 0 (blocks k)) (consecutive 0 (blocks k))) m).1) in
        let l = seam_listed k d.from d.to z in
        let q : d.to ≡ d.from = omega (arith, l, e) in
        let n : interval k d.to (axis_of (seam_axis k d.from d.to)) ≡ suc (interval k d.from (axis_of (seam_axis k d.from d.to))) = next_along k d.from d.to z in
        omega (arith, n, ap (λ (x : ℕ). interval k x (axis_of (seam_axis k d.from d.to))) q)
