-- What an accepted call about a list of cells has passed, and what it answers.
-- Assumes nothing.
use mathlib.Core.Path.{◌≡◌, refl, sym, ap, ◌∙◌}
use mathlib.Core.Bool.{true, false}
use mathlib.Core.Logic.{◌≢◌}
use mathlib.Core.List.{[], ◌∷◌}
use Prim.Native.Nat.{ℕ, ◌≤◌}
use native.Mathlib.Omega.{arith}
use lib.Dec.{eqb, leb}
use lib.ListN.{length}
use borrow.Author.Tests.{eqb-true, eqb-false, eq-eqb, ne_eqb, leb-true, not-false}
use Rattle.lists.proofs.Cases.{by_test, and_first, and_second}
use Rattle.refusals.specs.declared.Refusal.{Refusal}
use Rattle.refusals.specs.Refusals.{listed_numbers, number, stands_in}
use Rattle.refusals.proofs.RefusalLaws.{given_none}
use Rattle.cells.specs.Extents.{off_size}
use Rattle.cutting.specs.Cutting.{good_cut}
use Rattle.joiner.specs.Job.{Closed, State, same_stage, lengths_fit}
use Rattle.joiner.specs.Declines.{tallies_fit}
use Rattle.cell_calls.specs.Cells.{CellLists, cell_count}
use Rattle.cell_calls.specs.Calls.{CellCall, request, fill, CellAnswer, cell_answer, cells_of, tray_of, cells_placed, most_cells, lengths_one, lists_fit}
use Rattle.cell_calls.specs.Declines.{lent_for, cells_stand, cell_declines, cell_refusal}
use Rattle.cell_calls.specs.Outcomes.{listed_in, cell_done, cells_answered, CellStep}

module _ (s : State) (c : CellCall) where
  -- What a call that is not refused has passed.
  pub record CellPassed : Type 0 where
    pub on_size : off_size 1024 s.job.told.cutting.extents ≡ false
    pub cut : good_cut s.job.told.cutting ≡ true
    pub stage : same_stage s.job.stage Closed ≡ true
    pub placed : cells_placed s.job.told.cutting c ≡ true
    pub lists : lists_fit s.job.told.cutting c ≡ true
    pub lent : lengths_fit (lent_for s.job.told s.tables c) ≡ true
    pub tallies : tallies_fit s.job ≡ true
    pub stands : cells_stand s c ≡ true

  pub cell_passed : cell_refusal s c ≡ 0 → CellPassed
  unfolding cell_refusal cell_declines stands_in number
  cell_passed r =
      let n : (z : Refusal) → stands_in (cell_declines s c) z ≡ false = (given_none (stands_in (cell_declines s c))).0 r in
      let trays = not-false _ (n Refusal.WrongTray) in
      let standing = not-false _ (n Refusal.StrayLabel) in
      record {
        on_size = n Refusal.OffSize;
        cut = not-false _ (n Refusal.BadCut);
        stage = not-false _ (n Refusal.WrongStage);
        placed = not-false _ (n Refusal.NoSuchPlace);
        lists = and_first (lists_fit s.job.told.cutting c) _ trays;
        lent = and_second (lists_fit s.job.told.cutting c) _ trays;
        tallies = and_first (tallies_fit s.job) (cells_stand s c) standing;
        stands = and_second (tallies_fit s.job) (cells_stand s c) standing;
      }

  -- All that they list.
  pub cell_listed : listed_numbers (cell_declines s c) ≡ 1 ∷ 2 ∷ 3 ∷ 4 ∷ 6 ∷ 8 ∷ []
  unfolding cell_declines listed_numbers number
  cell_listed = refl

  -- ---- the answer

  pub answered_done : cell_refusal s c ≡ 0 → cells_answered s c ≡ cell_done s c
  unfolding cells_answered
  answered_done r = rw (eq-eqb (cell_refusal s c) 0 r)

  pub answered_refused : cell_refusal s c ≢ 0 → cells_answered s c ≡ cell_answer (cell_refusal s c) 0 (tray_of c)
  unfolding cells_answered
  answered_refused r = rw (ne_eqb (cell_refusal s c) 0 r)

  done_none : (d : CellCall) → (cell_done s d).refusal ≡ 0
  unfolding listed_in
  done_none (request l t) = refl
  done_none (fill l b m t) = refl

  answered_told : (cells_answered s c).refusal ≡ cell_refusal s c
  answered_told =
      by_test (eqb (cell_refusal s c) 0) (λ t. let r = eqb-true _ _ t in ap (λ (a : CellAnswer). a.refusal) (answered_done r) ∙ done_none c ∙ sym r)
      (λ t. ap (λ (a : CellAnswer). a.refusal) (answered_refused (eqb-false _ _ t)))

  -- What the code answers is a step: refused with n, or accepted.
  pub refused_is : (n : ℕ) → n ≡ cell_refusal s c → n ≢ 0 → CellStep s c (cell_answer n 0 (tray_of c))
  refused_is n e z = rw e (sym (answered_refused (λ r. z (e ∙ r))))

  pub done_is : (n : ℕ) → n ≡ cell_refusal s c → n ≡ 0 → (a : CellAnswer) → a ≡ cell_done s c → CellStep s c a
  done_is n e z a d = d ∙ sym (answered_done (sym e ∙ z))

  module _ (a : CellAnswer) (S : CellStep s c a) where
    -- The number is the refusal's; an accepted call answers what is asked for, a refused one nothing, and its tray stays.
    pub step_told : a.refusal ≡ cell_refusal s c
    step_told = ap (λ (x : CellAnswer). x.refusal) S ∙ answered_told

    pub step_done : a.refusal ≡ 0 → a ≡ cell_done s c
    step_done z = S ∙ answered_done (sym step_told ∙ z)

    pub step_refused : a.refusal ≢ 0 → a ≡ cell_answer (cell_refusal s c) 0 (tray_of c)
    step_refused z = S ∙ answered_refused (λ r. z (step_told ∙ r))

    pub step_passed : a.refusal ≡ 0 → CellPassed
    step_passed z = cell_passed (sym step_told ∙ z)

-- ---- the lengths

-- lists of one length have that many cells, and the tray one place for each
pub few_cells : (l : CellLists) (n : ℕ) → lengths_one (length l.xs) (length l.ys) (length l.zs) n ≡ true → n ≤ most_cells
unfolding lengths_one
few_cells l n t =
    let x = length l.xs in
    let v = and_second (eqb (length l.zs) x) _ (and_second (eqb (length l.ys) x) _ t) in
    omega (arith, leb-true x 4096 (and_first (leb x 4096) _ v), eqb-true n x (and_second (leb x 4096) (eqb n x) v))

pub one_length : (l : CellLists) (n : ℕ) → lengths_one (length l.xs) (length l.ys) (length l.zs) n ≡ true → n ≡ cell_count l
unfolding lengths_one cell_count
one_length l n t =
    let x = length l.xs in
    let y = length l.ys in
    let z = length l.zs in
    let u = and_second (eqb y x) _ t in
    let v = and_second (eqb z x) _ u in
    let a : y ≡ x = eqb-true y x (and_first (eqb y x) _ t) in
    let b : z ≡ x = eqb-true z x (and_first (eqb z x) _ u) in
    let d : n ≡ x = eqb-true n x (and_second (leb x 4096) (eqb n x) v) in
    omega arith

pub tray_length : (s : State) (c : CellCall) → CellPassed s c → length (tray_of c) ≡ cell_count (cells_of c)
tray_length s (request l t) P = one_length l (length t) P.lists
tray_length s (fill l b m t) P = one_length l (length t) (and_first (lengths_one (length l.xs) (length l.ys) (length l.zs) (length t)) _ P.lists)
