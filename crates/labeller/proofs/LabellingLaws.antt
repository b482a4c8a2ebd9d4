-- The ways of the labeller's functions, over plain lists and numbers.
-- Assumes nothing.
use mathlib.Core.Path.{◌≡◌, refl, sym, ap, ◌∙◌}
use mathlib.Core.Bool.{cond, ◌&&◌}
use mathlib.Core.List.{List, [], ◌∷◌}
use Prim.Native.Nat.{ℕ}
use native.Mathlib.Omega.{arith}
use lib.Dec.{eqb}
use lib.ListN.{length}
use borrow.Author.Tests.{eqb-true, eq-eqb, ne_eqb, not-false}
use Rattle.lists.specs.Lists.{tabulate, zeros}
use Rattle.lists.proofs.Cases.{and_first, and_second}
use Rattle.refusals.specs.declared.Refusal.{Refusal}
use Rattle.refusals.specs.Refusals.{number, table, first, given_by, listed_numbers, stands_in}
use Rattle.refusals.proofs.RefusalLaws.{given_none}
use Rattle.cells.specs.Box.{volume}
use Rattle.cells.specs.declared.Triple.{Triple}
use Rattle.cells.specs.Grid.{cells}
use Rattle.cells.specs.Extents.{off_size}
use Rattle.extents.proofs.SizeLaws.{sized_of, size_fits}
use Rattle.labels.specs.Number.{numbered, code_at, map_down, labels}
use Rattle.labels.specs.Components.{largest}
use Rattle.labels.proofs.CountLaws.{count_down}
use Rattle.counts.specs.Counts.{Counted}
use Rattle.labeller.specs.Labelling.{wrong_tray, declines, refusal_of, Ready, outcome, accepted, refused, labelling}

-- ---- the ladder of refusals

-- the refusal as a ladder of tests
pub refusal_is : (e : Triple) (codes n m : ℕ) → refusal_of e codes n m ≡ cond (off_size 64 e) 1 (cond (wrong_tray e codes n m) 6 0)
unfolding refusal_of given_by first table number stands_in declines
refusal_is e codes n m = refl

-- what is right where nothing is refused
pub ready_of : (e : Triple) (codes n m : ℕ) → refusal_of e codes n m ≡ 0 → Ready e codes n m
unfolding refusal_of wrong_tray declines stands_in number
ready_of e codes n m h =
    let none = (given_none (stands_in (declines e codes n m))).0 h in
    let a = not-false (eqb codes (volume e) && (eqb n (cells e) && eqb m (cells e))) (none Refusal.WrongTray) in
    let b = and_second (eqb codes (volume e)) (eqb n (cells e) && eqb m (cells e)) a in
    record {
      sized = sized_of 64 e (none Refusal.OffSize);
      codes_are = eqb-true _ _ (and_first (eqb codes (volume e)) (eqb n (cells e) && eqb m (cells e)) a);
      map_is = eqb-true _ _ (and_first (eqb n (cells e)) (eqb m (cells e)) b);
      work_is = eqb-true _ _ (and_second (eqb n (cells e)) (eqb m (cells e)) b);
    }

-- and nothing is refused where all that is right
pub ready_accepted : (e : Triple) (codes n m : ℕ) → Ready e codes n m → refusal_of e codes n m ≡ 0
unfolding wrong_tray
ready_accepted e codes n m r =
    refusal_is e codes n m
    ∙ rw (size_fits 64 64 e (omega arith) r.sized, eq-eqb codes (volume e) r.codes_are, eq-eqb n (cells e) r.map_is, eq-eqb m (cells e) r.work_is)

-- ---- the ways of `label`

pub label_refused : (e : Triple) (codes m w : List ℕ) (n : ℕ) → n ≡ refusal_of e (length codes) (length m) (length w) → (n ≡ 0 → ⊥)
    → outcome (record { refusal = n; faces = 0; curves = 0; points = 0 }) m w ≡ labelling e codes m w
unfolding labelling refused
label_refused e codes m w n h z = rw (← h, ne_eqb n 0 z)

pub label_accepted : (e : Triple) (codes m w : List ℕ) (n : ℕ) → n ≡ refusal_of e (length codes) (length m) (length w) → n ≡ 0
    → (r : Counted) (m' w' : List ℕ) → outcome r m' w' ≡ accepted e codes → outcome r m' w' ≡ labelling e codes m w
unfolding labelling
label_accepted e codes m w n h z r m' w' q = rw (← h, eq-eqb n 0 z) q

-- ---- the passes, one after the other

module _ (e : Triple) (codes m₀ m₁ m₂ m₃ w : List ℕ) (f c p : ℕ)
    (filled : m₀ ≡ tabulate (cells e) (code_at e codes))
    (faces : (m₁ ≡ numbered e 2 m₀) × (f ≡ largest e (numbered e 2 m₀) 2))
    (curves : (m₂ ≡ numbered e 1 m₁) × (c ≡ largest e (numbered e 1 m₁) 1))
    (points : (m₃ ≡ numbered e 0 m₂) × (p ≡ largest e (numbered e 0 m₂) 0))
    (cleared : w ≡ zeros (cells e)) where
  down_0 : m₀ ≡ map_down e codes 0
  unfolding map_down
  down_0 = filled

  down_1 : m₁ ≡ map_down e codes 1
  unfolding map_down
  down_1 = faces.0 ∙ ap (numbered e 2) down_0

  down_2 : m₂ ≡ map_down e codes 2
  unfolding map_down
  down_2 = curves.0 ∙ ap (numbered e 1) down_1

  down_3 : m₃ ≡ labels e codes
  unfolding labels map_down
  down_3 = points.0 ∙ ap (numbered e 0) down_2

  face_count : f ≡ largest e (labels e codes) 2
  face_count = faces.1 ∙ ap (λ (m : List ℕ). largest e m 2) (sym faces.0 ∙ down_1) ∙ count_down e codes 0 (omega arith)

  curve_count : c ≡ largest e (labels e codes) 1
  curve_count = curves.1 ∙ ap (λ (m : List ℕ). largest e m 1) (sym curves.0 ∙ down_2) ∙ count_down e codes 1 (omega arith)

  point_count : p ≡ largest e (labels e codes) 0
  point_count = points.1 ∙ ap (λ (m : List ℕ). largest e m 0) (sym points.0 ∙ down_3)

  pub block_labelled : outcome (record { refusal = 0; faces = f; curves = c; points = p }) m₃ w ≡ accepted e codes
  unfolding accepted
  block_labelled = rw (face_count, curve_count, point_count, down_3, cleared)

-- ---- the list of refusals

-- The numbers that `label` lists, in the order of the table.
pub label_listed : (e : Triple) (codes n m : ℕ) → listed_numbers (declines e codes n m) ≡ 1 ∷ 6 ∷ []
unfolding listed_numbers declines number
label_listed e codes n m = refl
