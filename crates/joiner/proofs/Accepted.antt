-- What every accepted step keeps.
-- Assumes nothing.
use mathlib.Core.Bool.{Bool, ◌||◌, cond, false, not}
use mathlib.Core.List.{List, Memᴰ, ◌∷◌}
use mathlib.Core.Path.{◌∙◌, ◌≡◌, ap, ap₂, refl, subst, sym}
use Prim.Native.Nat.{◌*◌, ◌+◌, ◌<◌, ◌≤◌, ℕ}
use native.Mathlib.Omega.{arith}
use lib.Dec.{T, eqb, ltb}
use lib.ListN.{get_or, length, set}
use lib.Seq.{get_or-set_other, get_or-set_same}
use borrow.Author.Tests.{eqb-false, eqb-true, ltb-false}
use Rattle.lists.specs.Lists.{is_in}
use Rattle.cutting.specs.Cutting.{Cutting, blocks}
use Rattle.joiner.specs.Book.{Book, book_adds}
use Rattle.joiner.specs.Calls.{Call, full, overfull}
use Rattle.joiner.specs.Declines.{adds}
use Rattle.joiner.specs.Outcomes.{Ticked, same}
use Rattle.joiner.specs.Job.{Curve, Face, Kind, Point, Stage, State, Told, ticked, ticks_per_block}
use Rattle.joiner.specs.Stages.{finished, next_after, next_stage, steps_of}
use Rattle.lists.proofs.Cases.{by_test, neither}
use Rattle.lists.proofs.Tests.{all_same}
use Rattle.cells.proofs.GridLaws.{inside}
use Rattle.joiner.proofs.Inv.{Inv}
use Rattle.joiner.proofs.Progress.{Progress, progress_more}

-- ---- a tick

-- what is ticked after one tick more
pub tick_at : (l : List ℕ) (step i : ℕ) → step < length l → not (eqb (get_or (set l step 1) i 0) 0) ≡ (eqb step i || not (eqb (get_or l i 0) 0))
tick_at l step i h =
    by_test (eqb step i)
    (λ t. let e : step ≡ i = eqb-true step i t in rw t (ap (λ (j : ℕ). not (eqb (get_or (set l step 1) j 0) 0)) (sym e) ∙ ap (λ (x : ℕ). not (eqb x 0)) (get_or-set_same l step 1 0 h) ∙ refl))
    (λ t. rw t (ap (λ (x : ℕ). not (eqb x 0)) (get_or-set_other l step i 1 0 (λ e. eqb-false step i t (sym e)))))

next_same : (k : Cutting) (f g : ℕ → Bool) (s : Stage) → ((i : ℕ) → f i ≡ g i) → next_after k f s ≡ next_after k g s
unfolding next_after finished
next_same k f g s h = ap (λ (t : Bool). cond t (next_stage k s) s) (all_same f g (steps_of k s) h)

-- ---- what every accepted step keeps

module _ (o : Told) (own : ℕ → List ℕ) (B : Book) (s t : State) (I : Inv o own B s) (c : Call) (step : ℕ) (T : Ticked s t c step) (maps : ℕ → List ℕ)
    (inside : step < ticks_per_block * blocks o.cutting) (room : full s.job.told.entries s.job.sofar (adds s c) ≡ false) (same : (κ : Kind) → adds s c κ ≡ book_adds B c κ) where
  pub told_kept : t.job.told ≡ o
  told_kept = T.told ∙ I.told

  pub ticks_kept : (i : ℕ) → ticked t.tables i ≡ is_in (step ∷ B.done) i
  unfolding ticked is_in
  ticks_kept i =
      ap (λ (l : List ℕ). not (eqb (get_or l i 0) 0)) T.ticks
      ∙ tick_at s.tables.ticks step i (omega (arith, inside, I.sizes.ticks_long))
      ∙ ap (λ (z : Bool). eqb step i || z) (I.ticks i)

  pub stage_kept : t.job.stage ≡ next_after B.told.cutting (is_in (step ∷ B.done)) B.stage
  stage_kept =
      T.stage
      ∙ ap (λ (z : Told). next_after z.cutting (ticked t.tables) s.job.stage) (I.told ∙ sym I.btold)
      ∙ ap (next_after B.told.cutting (ticked t.tables)) I.stage
      ∙ next_same B.told.cutting (ticked t.tables) (is_in (step ∷ B.done)) B.stage ticks_kept

  pub sofar_kept : (κ : Kind) → t.job.sofar κ ≡ B.sofar κ + book_adds B c κ
  sofar_kept κ = T.sofar κ ∙ ap₂ (λ (x y : ℕ). x + y) (I.sofar κ) (same κ)

  pub room_kept : (κ : Kind) → B.sofar κ + book_adds B c κ ≤ o.entries κ
  unfolding full overfull
  room_kept κ = omega (arith, go κ, I.sofar κ, same κ, ap (λ (z : Told). z.entries κ) I.told)
    where
      e : Kind → ℕ
      e = s.job.told.entries

      x : Kind → ℕ
      x κ = s.job.sofar κ + adds s c κ

      rest : (ltb (e Face) (x Face) ≡ false) × ((ltb (e Curve) (x Curve) || ltb (e Point) (x Point)) ≡ false)
      rest = neither (ltb (e Face) (x Face)) (ltb (e Curve) (x Curve) || ltb (e Point) (x Point)) room

      go : (κ : Kind) → s.job.sofar κ + adds s c κ ≤ s.job.told.entries κ
      go Face = ltb-false _ _ rest.0
      go Curve = ltb-false _ _ (neither (ltb (e Curve) (x Curve)) (ltb (e Point) (x Point)) rest.1).0
      go Point = ltb-false _ _ (neither (ltb (e Curve) (x Curve)) (ltb (e Point) (x Point)) rest.1).1

  pub progress_kept : Memᴰ step (steps_of o.cutting B.stage) → Progress o.cutting (step ∷ B.done) (next_after B.told.cutting (is_in (step ∷ B.done)) B.stage)
  progress_kept h =
      subst (λ (z : Told). Progress o.cutting (step ∷ B.done) (next_after z.cutting (is_in (step ∷ B.done)) B.stage)) (sym I.btold)
      (progress_more o.cutting B.done B.stage I.progress step h)
