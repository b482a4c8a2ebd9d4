-- Statement 2, first half: what `label` leaves, in the words of the relation. The premise of each theorem is the promise of `label` itself.
-- Assumes nothing.
use mathlib.Core.Path.{◌≡◌, refl, sym, ap, ◌∙◌, subst}
use mathlib.Core.Logic.{◌≢◌, ◌↔◌}
use mathlib.Core.Bool.{true}
use mathlib.Core.List.{List}
use Prim.Native.Nat.{ℕ, ◌<◌, ◌≤◌}
use native.Mathlib.Omega.{arith}
use lib.ListN.{length, get_or}
use Rattle.lists.specs.Lists.{zeros}
use borrow.Author.Tests.{eq-eqb, ne_eqb}
use Rattle.lists.proofs.Cases.{by_test}
use Rattle.refusals.proofs.RefusalLaws.{outcome_refusal}
use Rattle.cells.specs.declared.Triple.{Triple}
use Rattle.cells.specs.Grid.{cells, order}
use Rattle.cells.specs.Row.{active}
use Rattle.labels.specs.Number.{labels}
use Rattle.labels.specs.Numbering.{Joined, Numbering}
use Rattle.labels.specs.Components.{largest}
use Rattle.labels.proofs.LabelLaws.{labels_numbering}
use Rattle.labels.proofs.CountLaws.{Somewhere, every_number}
use Rattle.counts.specs.Counts.{Counted}
use Rattle.labeller.specs.Labelling.{Outcome, outcome, refusal_of, accepted, refused, labelling}

module _ (e : Triple) (codes m w : List ℕ) (r : Counted) (m' w' : List ℕ) (promise : outcome r m' w' ≡ labelling e codes m w) where
  -- The refusal given is the one that the table decides.
  pub label_refusal : r.refusal ≡ refusal_of e (length codes) (length m) (length w)
  unfolding labelling accepted refused
  label_refusal = outcome_refusal (λ (o : Outcome). o.answer.refusal) (refusal_of e (length codes) (length m) (length w)) refl refl promise

  -- Refused: nothing is changed, and the counts are 0.
  pub label_refused : r.refusal ≢ 0 → outcome r m' w' ≡ refused r.refusal m w
  unfolding labelling
  label_refused n = promise ∙ rw (← label_refusal, ne_eqb r.refusal 0 n)

  module _ (fine : r.refusal ≡ 0) where
    label_accepted : outcome r m' w' ≡ accepted e codes
    unfolding labelling
    label_accepted = promise ∙ rw (← label_refusal, eq-eqb r.refusal 0 fine)

    pub label_map : m' ≡ labels e codes
    unfolding accepted
    label_map = ap (λ (o : Outcome). o.map_tray) label_accepted

    -- Accepted: the map is the numbering of Definitions 1 to 3, and no other.
    pub label_numbering : Numbering e codes m'
    label_numbering = subst (Numbering e codes) (sym label_map) (labels_numbering e codes)

    -- A cell of order 0 to 2 is numbered exactly when it is active.
    pub label_numbered : (p : ℕ) → p < cells e → order e p < 3 → (0 < get_or m' p 0) ↔ (active e m' p ≡ true)
    label_numbered p h l = (
      λ n. by_test (active e m' p) (λ t. t) (λ t. absurd (omega (arith, label_numbering.inactive p h l t))),
      λ t. label_numbering.positive p h t,
    )

    -- Two active cells of one order share a number exactly when a path of meeting cells of equal row joins them.
    pub label_shared : (p q : ℕ) → p < cells e → q < cells e → order e p ≡ order e q → active e m' p ≡ true → active e m' q ≡ true
        → (get_or m' p 0 ≡ get_or m' q 0) ↔ Joined e m' p q
    label_shared = label_numbering.shared

    -- The counts: each number from 1 to the count stands at a cell of its order, and no larger one does.
    pub label_counts : (r.faces ≡ largest e m' 2) × (r.curves ≡ largest e m' 1) × (r.points ≡ largest e m' 0)
    unfolding accepted
    label_counts =
        let same : (j : ℕ) → largest e (labels e codes) j ≡ largest e m' j = λ j. ap (λ (n : List ℕ). largest e n j) (sym label_map) in
        (ap (λ (o : Outcome). o.answer.faces) label_accepted ∙ same 2, ap (λ (o : Outcome). o.answer.curves) label_accepted ∙ same 1, ap (λ (o : Outcome). o.answer.points) label_accepted ∙ same 0)

    pub label_every : (j n : ℕ) → j < 3 → 0 < n → n ≤ largest e m' j → Somewhere e m' j n
    label_every j n l h k = every_number e codes m' label_numbering j l n h k

    pub label_work : w' ≡ zeros (cells e)
    unfolding accepted
    label_work = ap (λ (o : Outcome). o.work_tray) label_accepted
