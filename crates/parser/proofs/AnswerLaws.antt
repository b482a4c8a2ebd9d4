-- What is told once the text has ended, over plain lists and numbers.
-- Assumes nothing.
use mathlib.Core.Path.{◌≡◌, refl, sym, ap, subst, ◌∙◌}
use mathlib.Core.Bool.{Bool, true, false, cond, not, ◌&&◌}
use mathlib.Core.List.{List}
use Prim.Native.Nat.{ℕ, ◌-◌}
use native.Mathlib.Omega.{arith}
use lib.Dec.{eqb, leb, ltb}
use lib.ListN.{length, length-set}
use borrow.Author.Tests.{eqb-true, not-true}
use Rattle.lists.proofs.Cases.{by_test, and_first, and_second}
use Rattle.refusals.specs.Refusals.{number}
use Rattle.cells.specs.Box.{triple, volume}
use Rattle.cells.specs.declared.Triple.{Triple}
use Rattle.cells.specs.Extents.{Sized, off_size}
use Rattle.extents.proofs.SizeLaws.{sized_of}
use Rattle.parser.specs.Scanning.{Seen, State, state, counts, stored, closed}
use Rattle.parser.specs.Asked.{Task, Outcome, outcome, task_of, extents_seen, off_extents, whole_text, line_number, task_seen, finished}

-- ---- the form

-- Extents of a text that has its form.
pub whole_sized : (s : Seen) → whole_text s ≡ true → Sized 8 (extents_seen s)
unfolding whole_text
whole_sized s t =
    let o = not (off_size 8 (extents_seen s)) in
    let n = eqb (s.count - 3) (volume (extents_seen s)) in
    let k = leb 3 s.count in
    sized_of 8 (extents_seen s) (not-true (off_size 8 (extents_seen s)) (and_first o n (and_second k (o && n) (and_second (not s.broken) (k && (o && n)) t))))

-- ---- the number of the line

-- The tests, lowest number first: off size, a text that is not whole.
abbrev pub rungs : Bool → Bool → ℕ
rungs o w = cond o 1 (cond (not w) 11 0)

-- None stands.
pub record Passed (o w : Bool) : Type 0 where
  pub size : o ≡ false
  pub form : w ≡ true

pub rungs_none : (o w : Bool) → rungs o w ≡ 0 → Passed o w
rungs_none true w z = absurd (omega arith)
rungs_none false true z = record { size = refl; form = refl }
rungs_none false false z = absurd (omega arith)

module _ (s : Seen) where
  pub ladder : line_number s ≡ rungs (off_extents s) (whole_text s)
  unfolding line_number number
  ladder = refl

  -- Where no line is printed, the extents are small.
  small_extents : line_number s ≡ 0 → Sized 8 (extents_seen s)
  small_extents z = whole_sized s (rungs_none (off_extents s) (whole_text s) (sym ladder ∙ z)).form

pub finished_is : (s t : Seen) (d e : List ℕ) (r : Task) → state t e ≡ closed s d → r ≡ task_seen t → outcome r e ≡ finished (state s d)
unfolding finished
finished_is s t d e r p q = rw (← p, q)

-- The tray keeps its length.
closed_length : (s : Seen) (d : List ℕ) → length (closed s d).codes ≡ length d
unfolding closed stored
closed_length s d =
    by_test (eqb s.size 0) (λ t. rw t)
    (λ t. rw t (by_test (counts s) (λ u. rw u (by_test (ltb s.count 3) (λ v. rw v) (λ v. rw v (length-set d (s.count - 3) s.value)))) (λ u. rw u)))

pub finished_length : (st : State) (r : Task) (d : List ℕ) → outcome r d ≡ finished st → length d ≡ length st.codes
unfolding finished
finished_length st r d p = ap (λ (o : Outcome). length o.tray) p ∙ closed_length st.seen st.codes

-- ---- a volume that is to be listed is small

-- The extents that a task names; those of one voxel where it names none.
abbrev extents_named : Task → Triple
extents_named (Task.ListVolume x y z) = triple x y z
extents_named (Task.PrintRefused n) = triple 1 1 1

task_sized : (s : Seen) → Sized 8 (extents_named (task_seen s))
unfolding task_seen task_of
task_sized s =
    by_test (eqb (line_number s) 0)
    (λ t. rw t (small_extents s (eqb-true _ 0 t)))
    (λ t. rw t (record { x_low = omega arith; x_high = omega arith; y_low = omega arith; y_high = omega arith; z_low = omega arith; z_high = omega arith }))

pub listed_small : (st : State) (r : Task) (d : List ℕ) (x y z : ℕ) → outcome r d ≡ finished st → r ≡ Task.ListVolume x y z → Sized 8 (triple x y z)
unfolding finished
listed_small st r d x y z p q =
    let t = closed st.seen st.codes in
    let e : Task.ListVolume x y z ≡ task_seen t.seen = sym q ∙ ap (λ (o : Outcome). o.task) p in
    subst (λ (u : Task). Sized 8 (extents_named u)) (sym e) (task_sized t.seen)
