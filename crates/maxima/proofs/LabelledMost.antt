-- What `label` answers beside what `most_components` answers for the same extents. The premises are the promises of the two public entries.
-- Assumes nothing.
use mathlib.Core.Path.{◌≡◌, sym, ap, ◌∙◌}
use mathlib.Core.Bool.{false}
use mathlib.Core.List.{List}
use Prim.Native.Nat.{ℕ, suc, ◌≤◌, ◌<◌}
use native.Mathlib.Omega.{arith}
use lib.Dec.{eqb}
use lib.ListN.{length, get_or}
use borrow.Author.Tests.{eqb-true, eqb-false}
use Rattle.lists.proofs.Cases.{by_test}
use Rattle.lists.proofs.Lists.{length-tabulate, get_or_tabulate}
use Rattle.cells.specs.Box.{volume}
use Rattle.cells.specs.declared.Triple.{Triple}
use Rattle.cells.specs.Extents.{Sized, off_size}
use Rattle.cells.specs.Grid.{cells}
use Rattle.cells.proofs.ExtentLaws.{volume_high}
use Rattle.extents.proofs.SizeLaws.{size_fits}
use Rattle.labels.specs.Number.{labels}
use Rattle.labels.specs.Components.{largest}
use Rattle.labels.specs.OrderCounts.{cells_of_order}
use Rattle.labeller.specs.Labelling.{Outcome, outcome, labelling, refused, Ready}
use Rattle.labeller.proofs.LabellingLaws.{ready_of, ready_accepted}
use Rattle.labeller.proofs.OneBlock.{label_refusal, label_refused, label_map, label_counts}
use Rattle.counts.specs.Counts.{Counted}
use Rattle.maxima.specs.Maxima.{DifferentCodes, counted_codes, accepted, most_components}
use Rattle.maxima.proofs.MaximaLaws.{most, numbers_reach, different_codes, counted_different, most_accepted}

module _ (e : Triple) (codes m w : List ℕ) (r : Counted) (m' w' : List ℕ) (promise : outcome r m' w' ≡ labelling e codes m w)
    (s : Counted) (answered : s ≡ most_components e) where
  module _ (fine : r.refusal ≡ 0) where
    -- an accepted labelling has extents that are not off size
    sized : off_size 64 e ≡ false
    sized =
        let ready = ready_of e (length codes) (length m) (length w) (sym (label_refusal e codes m w r m' w' promise) ∙ fine) in
        size_fits 64 64 e (omega arith) ready.sized

    told : s ≡ accepted e
    told = answered ∙ most_accepted e sized

    -- the counts of the labelling are those of the definition
    counted : (j : ℕ) → largest e m' j ≡ largest e (labels e codes) j
    counted j = ap (λ (n : List ℕ). largest e n j) (label_map e codes m w r m' w' promise fine)

    counts : (r.faces ≡ largest e m' 2) × (r.curves ≡ largest e m' 1) × (r.points ≡ largest e m' 0)
    counts = label_counts e codes m w r m' w' promise fine

    tells : (s.faces ≡ cells_of_order e 2) × (s.curves ≡ cells_of_order e 1) × (s.points ≡ cells_of_order e 0)
    unfolding accepted
    tells = (ap (λ (a : Counted). a.faces) told, ap (λ (a : Counted). a.curves) told, ap (λ (a : Counted). a.points) told)

    accepted_most : (r.faces ≤ s.faces) × (r.curves ≤ s.curves) × (r.points ≤ s.points)
    accepted_most = (
      omega (arith, counts.0, counted 2, tells.0, most e codes 2 (omega arith)),
      omega (arith, counts.1, counted 1, tells.1, most e codes 1 (omega arith)),
      omega (arith, counts.2, counted 0, tells.2, most e codes 0 (omega arith)),
    )

    -- Accepted, with all codes different: as many as `most_components` answers.
    pub label_reached : DifferentCodes e codes → (r.faces ≡ s.faces) × (r.curves ≡ s.curves) × (r.points ≡ s.points)
    label_reached D =
        let same : (j : ℕ) → j < 3 → largest e (labels e codes) j ≡ cells_of_order e j = numbers_reach e codes (different_codes e codes D) in (
          omega (arith, counts.0, counted 2, tells.0, same 2 (omega arith)),
          omega (arith, counts.1, counted 1, tells.1, same 1 (omega arith)),
          omega (arith, counts.2, counted 0, tells.2, same 0 (omega arith)),
        )

  -- No call of `label`, refused or not, answers more faces, curves or points than `most_components`.
  pub label_most : (r.faces ≤ s.faces) × (r.curves ≤ s.curves) × (r.points ≤ s.points)
  unfolding refused
  label_most =
      by_test (eqb r.refusal 0)
      (λ t. accepted_most (eqb-true r.refusal 0 t))
      (λ t.
      let n = label_refused e codes m w r m' w' promise (eqb-false r.refusal 0 t) in (
        omega (arith, ap (λ (o : Outcome). o.answer.faces) n),
        omega (arith, ap (λ (o : Outcome). o.answer.curves) n),
        omega (arith, ap (λ (o : Outcome). o.answer.points) n),
      ))

-- ---- such calls there are, for all extents from 1 to 64

-- `label` accepts every list of different codes, also with a 0 among them, in trays of the right lengths, and answers as many faces, curves and points as
-- `most_components`.
pub different_reached : (e : Triple) (codes m w : List ℕ) → Sized 64 e → length codes ≡ volume e → length m ≡ cells e → length w ≡ cells e → DifferentCodes e codes
    → (r : Counted) (m' w' : List ℕ) → outcome r m' w' ≡ labelling e codes m w → (s : Counted) → s ≡ most_components e
    → (r.refusal ≡ 0) × (r.faces ≡ s.faces) × (r.curves ≡ s.curves) × (r.points ≡ s.points)
different_reached e codes m w z n k l D r m' w' promise s answered =
    let ready : Ready e (length codes) (length m) (length w) = record { sized = z; codes_are = n; map_is = k; work_is = l } in
    let fine : r.refusal ≡ 0 = label_refusal e codes m w r m' w' promise ∙ ready_accepted e (length codes) (length m) (length w) ready in
    let same = label_reached e codes m w r m' w' promise s answered fine D in
    (fine, same.0, same.1, same.2)

-- .. of which the codes 1, 2, 3, .. are one.
module _ (e : Triple) (z : Sized 64 e) where
  -- "A voxel's code is 1 to 4,294,967,295": none of them is outside.
  pub counted_codes_lem : (v : ℕ) → v < volume e → (1 ≤ get_or (counted_codes e) v 0) × (get_or (counted_codes e) v 0 ≤ 4294967295)
  unfolding counted_codes
  counted_codes_lem v h =
      let c = get_or_tabulate (volume e) suc v h in
      let n : volume e ≤ 262144 = volume_high z in
      (omega arith, omega arith)

  pub counted_reached : (m w : List ℕ) → length m ≡ cells e → length w ≡ cells e → (r : Counted) (m' w' : List ℕ) → outcome r m' w' ≡ labelling e (counted_codes e) m w
      → (s : Counted) → s ≡ most_components e → (r.refusal ≡ 0) × (r.faces ≡ s.faces) × (r.curves ≡ s.curves) × (r.points ≡ s.points)
  counted_reached m w k l r m' w' promise s answered =
      let n : length (counted_codes e) ≡ volume e = unfold counted_codes in length-tabulate (volume e) suc in
      different_reached e (counted_codes e) m w z n k l (counted_different e) r m' w' promise s answered
