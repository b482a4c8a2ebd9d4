-- Each seam has its own step number.
-- Assumes nothing.
use mathlib.Core.Bool.{Bool, ◌&&◌, ◌||◌, cond, false, true}
use mathlib.Core.List.Memᴰ
use mathlib.Core.List.{Memᴰ}
use mathlib.Core.Logic.{◌⊎◌, inl, inr}
use mathlib.Core.Path.{◌∙◌, ◌≡◌, ap, subst, sym}
use Prim.Native.Nat.{◌<◌, ◌≤◌, suc, ℕ}
use native.Mathlib.Omega.{arith}
use lib.Dec.{eqb, ltb}
use borrow.Author.Tests.{eqb-true}
use Rattle.lists.specs.Lists.{consecutive}
use Rattle.closure.specs.Joined.{edge}
use Rattle.cells.specs.Box.{coord, index, place}
use Rattle.cells.specs.declared.Axis.{Axis}
use Rattle.cells.specs.declared.Axis.TheVariants.{X, Y, Z}
use Rattle.cutting.specs.Cutting.{Cutting, block_sides, blocks, follows, interval, same_interval, seam}
use Rattle.joiner.specs.Job.{Seam}
use Rattle.joiner.specs.Stages.{products, seam_axis, seam_step, seams, steps_of}
use Rattle.lists.proofs.Cases.{and_first, and_second, by_test, or_either}
use Rattle.lists.proofs.Lists.{consecutive_in, keep_in}
use Rattle.cells.proofs.BoxLaws.{index_place, same_triple}
use Rattle.cutting.proofs.CutLaws.{interval_is}
use Rattle.joiner.proofs.Shared.{products_in, seam_listed}

pub record Axes (k : Cutting) (b c a : ℕ) : Type 0 where
  pub on_x : interval k c X ≡ cond (eqb a 1) (suc (interval k b X)) (interval k b X)
  pub on_y : interval k c Y ≡ cond (eqb a 2) (suc (interval k b Y)) (interval k b Y)
  pub on_z : interval k c Z ≡ cond (eqb a 3) (suc (interval k b Z)) (interval k b Z)

module _ (k : Cutting) (b c : ℕ) where
  follows_on : Axis → Bool
  follows_on a = follows k b c a

  L : Axis → Bool
  L a = same_interval k b c a

  F_is : (a : Axis) → follows_on a ≡ true → interval k c a ≡ suc (interval k b a)
  unfolding follows_on follows
  F_is a t = eqb-true _ _ t

  L_is : (a : Axis) → L a ≡ true → interval k c a ≡ interval k b a
  unfolding L same_interval
  L_is a t = eqb-true _ _ t

  not_both : (a : Axis) → L a ≡ true → follows_on a ≡ false
  not_both a t = by_test (follows_on a) (λ f. absurd (omega (arith, L_is a t, F_is a f))) (λ f. f)

  pub seam_axes : seam k b c ≡ true → Axes k b c (seam_axis k b c)
  unfolding seam seam_axis follows_on L
  seam_axes z = go (or_either ((follows_on X && L Y && L Z) || (L X && follows_on Y && L Z)) (L X && L Y && follows_on Z) (and_second (ltb b (blocks k) && ltb c (blocks k)) _ z))
    where
      on_first : (follows_on X && L Y && L Z) ≡ true → Axes k b c (cond (follows_on X) 1 (cond (follows_on Y) 2 3))
      on_first t =
          let fx : follows_on X ≡ true = and_first (follows_on X) (L Y) (and_first (follows_on X && L Y) (L Z) t) in
          let ly : L Y ≡ true = and_second (follows_on X) (L Y) (and_first (follows_on X && L Y) (L Z) t) in
          let lz : L Z ≡ true = and_second (follows_on X && L Y) (L Z) t in
          rw fx (record { on_x = F_is X fx; on_y = L_is Y ly; on_z = L_is Z lz })

      on_second : (L X && follows_on Y && L Z) ≡ true → Axes k b c (cond (follows_on X) 1 (cond (follows_on Y) 2 3))
      on_second t =
          let lx : L X ≡ true = and_first (L X) (follows_on Y) (and_first (L X && follows_on Y) (L Z) t) in
          let fy : follows_on Y ≡ true = and_second (L X) (follows_on Y) (and_first (L X && follows_on Y) (L Z) t) in
          let lz : L Z ≡ true = and_second (L X && follows_on Y) (L Z) t in
          rw (not_both X lx, fy) (record { on_x = L_is X lx; on_y = F_is Y fy; on_z = L_is Z lz })

      on_third : (L X && L Y && follows_on Z) ≡ true → Axes k b c (cond (follows_on X) 1 (cond (follows_on Y) 2 3))
      on_third t =
          let lx : L X ≡ true = and_first (L X) (L Y) (and_first (L X && L Y) (follows_on Z) t) in
          let ly : L Y ≡ true = and_second (L X) (L Y) (and_first (L X && L Y) (follows_on Z) t) in
          let fz : follows_on Z ≡ true = and_second (L X && L Y) (follows_on Z) t in
          rw (not_both X lx, not_both Y ly) (record { on_x = L_is X lx; on_y = L_is Y ly; on_z = F_is Z fz })

      go : (((follows_on X && L Y && L Z) || (L X && follows_on Y && L Z)) ≡ true) ⊎ ((L X && L Y && follows_on Z) ≡ true) → Axes k b c (cond (follows_on X) 1 (cond (follows_on Y) 2 3))
      go (inl t) = inner (or_either (follows_on X && L Y && L Z) (L X && follows_on Y && L Z) t)
        where
          inner : ((follows_on X && L Y && L Z) ≡ true) ⊎ ((L X && follows_on Y && L Z) ≡ true) → Axes k b c (cond (follows_on X) 1 (cond (follows_on Y) 2 3))
          inner (inl u) = on_first u
          inner (inr u) = on_second u
      go (inr t) = on_third t

pub axis_bound : (k : Cutting) (b c : ℕ) → (0 < seam_axis k b c) × (seam_axis k b c ≤ 3)
unfolding seam_axis
axis_bound k b c = go (follows k b c X) (follows k b c Y)
  where
    go : (s t : Bool) → (0 < cond s 1 (cond t 2 3)) × (cond s 1 (cond t 2 3) ≤ 3)
    go true t = (omega arith, omega arith)
    go false true = (omega arith, omega arith)
    go false false = (omega arith, omega arith)

-- seams with one step number are one seam
pub seam_step_same : (k : Cutting) (b c d e : ℕ) → seam k b c ≡ true → seam k d e ≡ true → seam_step k (edge b c) ≡ seam_step k (edge d e) → (b ≡ d) × (c ≡ e)
unfolding seam_step
seam_step_same k b c d e z w q = (same, sym (index_place (block_sides k) c) ∙ ap (index (block_sides k)) (same_triple _ _ on) ∙ index_place (block_sides k) e)
  where
    same : b ≡ d
    same = omega (arith, axis_bound k b c, axis_bound k d e)

    axis : seam_axis k b c ≡ seam_axis k d e
    axis = omega (arith, axis_bound k b c, axis_bound k d e)

    one : Axes k b c (seam_axis k b c)
    one = seam_axes k b c z

    two : Axes k b e (seam_axis k b c)
    two = subst (λ (x : ℕ). Axes k x e (seam_axis k b c)) (sym same) (subst (Axes k d e) (sym axis) (seam_axes k d e w))

    at : (a : Axis) → interval k c a ≡ interval k e a
    at X = one.on_x ∙ sym two.on_x
    at Y = one.on_y ∙ sym two.on_y
    at Z = one.on_z ∙ sym two.on_z

    on : (a : Axis) → coord (place (block_sides k) c) a ≡ coord (place (block_sides k) e) a
    on a = sym (interval_is k c a) ∙ at a ∙ interval_is k e a

-- a seam is a step of its stage
pub seam_in : (k : Cutting) (b c : ℕ) → seam k b c ≡ true → Memᴰ (seam_step k (edge b c)) (steps_of k Seam)
unfolding steps_of seams
seam_in k b c z =
    let l = seam_listed k b c z in
    Memᴰ.map (seam_step k)
    (keep_in (λ d. seam k d.from d.to) (products (consecutive 0 (blocks k)) (consecutive 0 (blocks k)))
    (products_in _ _ (consecutive_in 0 (blocks k) (omega arith) (omega (arith, l.0))) (consecutive_in 0 (blocks k) (omega arith) (omega (arith, l.1)))) z)
