-- Lists of readings taken: one after the other, cell by cell, line by line.
-- Assumes nothing.
use mathlib.Core.Path.{◌≡◌, refl, sym, ap, ◌∙◌}
use mathlib.Core.List.{List, [], ◌∷◌, ◌++◌, append_assoc}
use Prim.Native.Nat.{ℕ, ◌+◌, ◌*◌, ◌≤◌, ◌<◌}
use lib.ListN.{length, length-set}
use lib.Ieee.{Float}
use Rattle.cells.specs.declared.Triple.{Triple}
use Rattle.labels.specs.Components.{of_order}
use Rattle.lines.specs.Lines.{line_count}
use Rattle.pass_survey.specs.Survey.{on_line}
use Rattle.pass_survey.proofs.SurveyLaws.{from_line, from_first, from_next, from_last}
use Rattle.strains.specs.Readings.{kind_of}
use Rattle.totals.specs.Totals.{Taken, after, sum_added, sums_with, count_added, counts_with}
use Rattle.strain_calls.specs.Adding.{gathered}

pub gathered_append : (f : ℕ → List Taken) (a b : List ℕ) → gathered f (a ++ b) ≡ gathered f a ++ gathered f b
unfolding gathered
gathered_append f [] b = refl
gathered_append f (p ∷ a) b = ap (λ (l : List Taken). f p ++ l) (gathered_append f a b) ∙ sym (append_assoc (f p) (gathered f a) (gathered f b))

pub after_append : {A : Type 0} (step : A → Taken → A) (xs : A) (a b : List Taken) → after step xs (a ++ b) ≡ after step (after step xs a) b
unfolding after
after_append step xs [] b = refl
after_append step xs (t ∷ a) b = after_append step (step xs t) a b

-- ---- the next cell of a list, and none

module _ {A : Type 0} (step : A → Taken → A) (f : ℕ → List Taken) where
  pub after_next : (xs ys : A) (p : ℕ) (ps : List ℕ) → ys ≡ after step xs (f p) → after step ys (gathered f ps) ≡ after step xs (gathered f (p ∷ ps))
  unfolding gathered
  after_next xs ys p ps i = rw i (sym (after_append step xs (f p) (gathered f ps)))

  pub after_none : (xs : A) → xs ≡ after step xs (gathered f [])
  unfolding gathered after
  after_none xs = refl

-- ---- from line l on

module _ {A : Type 0} (step : A → Taken → A) (f : ℕ → List Taken) (e : Triple) (j : ℕ) where
  pub after_lines : (xs : A) → after step xs (gathered f (from_line e j 0)) ≡ after step xs (gathered f (of_order e j))
  after_lines xs = rw (from_first e j)

  pub after_line : (xs ys : A) (l : ℕ) → l < line_count e → ys ≡ after step xs (gathered f (on_line e j l)) → after step ys (gathered f (from_line e j (l + 1))) ≡ after step xs (gathered f (from_line e j l))
  after_line xs ys l h i =
      rw (from_next e j l h, gathered_append f (on_line e j l) (from_line e j (l + 1)), i) (sym (after_append step xs (gathered f (on_line e j l)) (gathered f (from_line e j (l + 1)))))

  pub after_last : (xs : A) (l : ℕ) → line_count e ≤ l → xs ≡ after step xs (gathered f (from_line e j l))
  unfolding gathered after
  after_last xs l h = rw (from_last e j l h) refl

-- ---- lengths stay

after_length : {A : Type 0} (step : List A → Taken → List A) → ((xs : List A) (t : Taken) → length (step xs t) ≡ length xs) → (xs : List A) (ts : List Taken) → length (after step xs ts) ≡ length xs
unfolding after
after_length step h xs [] = refl
after_length step h xs (t ∷ ts) = after_length step h (step xs t) ts ∙ h xs t

pub sums_length : (sums : List Float) (ts : List Taken) → length (sums_with sums ts) ≡ length sums
unfolding sums_with sum_added
sums_length sums ts = after_length _ (λ xs t. length-set xs t.slot _) sums ts

pub counts_length : (counts : List ℕ) (ts : List Taken) → length (counts_with counts ts) ≡ length counts
unfolding counts_with count_added
counts_length counts ts = after_length _ (λ xs t. length-set xs (3 * t.slot + kind_of t.reading) _) counts ts
