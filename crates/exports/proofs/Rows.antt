-- The row that a reading stores has the part that the joiner's reading gives.
-- Assumes nothing.
use mathlib.Core.List.{List}
use mathlib.Core.Path.{◌≡◌, ◌∙◌, sym}
use Prim.Native.Nat.{ℕ, ◌-◌, ◌*◌, ◌≤◌, ◌<◌}
use native.Mathlib.Nat.{mul-le-mul_left}
use native.Mathlib.Omega.{arith}
use lib.Dec.{leb, ltb}
use lib.ListN.{get_or, length, take, drop, length-take, length-drop}
use lib.Seq.{ext_get_or}
use borrow.Author.Tests.{leb-true, ltb-true}
use Rattle.lists.specs.Lists.{consecutive, tabulate}
use Rattle.lists.proofs.Cases.{and_first, and_second}
use Rattle.lists.proofs.Lists.{get_or_tabulate, length-tabulate}
use Rattle.joiner.specs.Job.{Kind, Face, Curve, Point, width, State, listed_trays}
use Rattle.joiner.specs.Calls.{reading}
use Rattle.joiner.specs.Declines.{lent_to, refusal}
use Rattle.joiner.specs.Outcomes.{row_taken}
use Rattle.joiner.proofs.Passed.{Passed, passed, fits_at_lem, numbered_fits}
use Rattle.reading_row.proofs.RowLaws.{row_end}
use Rattle.exports.specs.Exports.{six_of}

-- The row of an accepted reading has its two, four or six places.
module _ (s : State) (κ : Kind) (n : ℕ) (e : refusal s (reading κ n) ≡ 0) where
  call_facts : Passed s (reading κ n)
  call_facts = passed s (reading κ n) e

  long : (κ' : Kind) → length (s.tables.listed κ') ≡ width κ' * s.job.told.entries κ'
  unfolding listed_trays
  long Face = fits_at_lem (lent_to s.job.told s.tables (reading κ n)) 0 call_facts.lent
  long Curve = fits_at_lem (lent_to s.job.told s.tables (reading κ n)) 1 call_facts.lent
  long Point = fits_at_lem (lent_to s.job.told s.tables (reading κ n)) 2 call_facts.lent

  pub row_wide : length (row_taken s κ n) ≡ width κ
  unfolding row_taken
  row_wide =
      let some : 0 < n = ltb-true 0 n (and_first (ltb 0 n) (leb n (s.job.numbered κ)) call_facts.placed_in) in
      let most : n ≤ s.job.numbered κ = leb-true n (s.job.numbered κ) (and_second (ltb 0 n) (leb n (s.job.numbered κ)) call_facts.placed_in) in
      let within : n ≤ s.job.told.entries κ = omega (arith, most, numbered_fits s.job call_facts.tallies κ) in
      let inside : width κ * n ≤ length (s.tables.listed κ) = rw (long κ) (mul-le-mul_left (width κ) within) in
      let a = length-take (width κ) (drop (width κ * (n - 1)) (s.tables.listed κ)) in
      let b = length-drop (width κ * (n - 1)) (s.tables.listed κ) in
      omega (arith, a, b, row_end (width κ) n (length (s.tables.listed κ)) (some, inside))

-- a list is the table of its entries
entries_of_lem : (n : ℕ) (l : List ℕ) → length l ≡ n → tabulate n (λ i. get_or l i 0) ≡ l
entries_of_lem n l e =
    ext_get_or 0 (tabulate n (λ i. get_or l i 0)) l (length-tabulate n (λ i. get_or l i 0) ∙ sym e)
    (λ i h. get_or_tabulate n (λ i. get_or l i 0) i (omega (arith, length-tabulate n (λ i. get_or l i 0))))

-- Filled to six places, it is still at the front.
pub six_front : (κ : Kind) (l : List ℕ) → length l ≡ width κ → take (width κ) (six_of l) ≡ l
unfolding six_of tabulate consecutive
six_front Face l e = entries_of_lem 2 l e
six_front Curve l e = entries_of_lem 4 l e
six_front Point l e = entries_of_lem 6 l e
