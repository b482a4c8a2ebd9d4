-- Point cells, their rows over the final curves, and how many of them are points.
-- Assumes nothing.
use mathlib.Core.Bool.{Bool, true, not}
use mathlib.Core.Path.{◌≡◌, refl, sym, ap, ◌∙◌}
use mathlib.Core.Logic.{◌≢◌}
use mathlib.Core.List.{List, [], ◌∷◌, ◌++◌, map-map}
use Prim.Native.Nat.{ℕ, ◌+◌, ◌-◌, ◌*◌, ◌≤◌, ◌<◌}
use native.Mathlib.Omega.{arith}
use lib.Dec.{eqb}
use Rattle.std.specs.Cmp.Lexicographic.{pointwise}
use lib.ListN.{get_or, length, length-append}
use borrow.Author.Tests.{eq-eqb, eqb-true, eqb-false, ne_eqb}
use Rattle.lists.proofs.Cases.{by_test}
use Rattle.lists.specs.Lists.{consecutive, tabulate}
use Rattle.lists.proofs.Lists.{keep_append, length-keep, length-consecutive}
use Rattle.cells.specs.Box.{stride}
use Rattle.cells.specs.declared.Axis.TheVariants.{X, Y, Z}
use Rattle.cells.specs.declared.Triple.{Triple}
use Rattle.cells.specs.Extents.{Sized}
use Rattle.cells.specs.Grid.{sides, cells, order, upper_neighbours}
use Rattle.cells.specs.Row.{row_of, occupied, numbers_at}
use Rattle.cells.proofs.RowLaws.{same_row_lem}
use Rattle.rows.proofs.OrderLaws.{same_places}
use Rattle.cells.proofs.ExtentLaws.{cells_high}
use Rattle.cells.proofs.GridLaws.{odd_lt}
use Rattle.labels.specs.Components.{of_order}
use Rattle.lines.specs.Lines.{stride_if, odds, around, line_count}
use Rattle.lines.proofs.LineLaws.{up_around, odds_are, Reads, reads}
use Rattle.pass_survey.specs.Survey.{on_line}
use Rattle.pass_survey.proofs.SurveyLaws.{from_line, from_first, from_next, from_last}
use Rattle.pass_point.specs.FoundPoints.{final_in, found_row, found_among, found_cells, finals_in}

-- ---- final numbers

-- the ways of `final_number`
module _ (numbers : List ℕ) (from n : ℕ) where
  pub final_none : n ≡ 0 → 0 ≡ final_in numbers from n
  unfolding final_in
  final_none z = rw (eq-eqb n 0 z)

  pub final_some : (r : ℕ) → n ≢ 0 → r ≡ get_or numbers (from + (n - 1)) 0 → r ≡ final_in numbers from n
  unfolding final_in
  final_some r z e = rw (ne_eqb n 0 z) e

-- the row of six zeros
pub final_zeros : (numbers : List ℕ) (from : ℕ) → 0 ∷ 0 ∷ 0 ∷ 0 ∷ 0 ∷ 0 ∷ [] ≡ row_of (finals_in numbers from (0 ∷ 0 ∷ 0 ∷ 0 ∷ 0 ∷ 0 ∷ []))
unfolding row_of finals_in final_in
final_zeros numbers from = refl

-- .. is the row where all six are 0
pub final_idle : (numbers : List ℕ) (from : ℕ) (a : List ℕ) (b : Bool) → b ≡ pointwise eqb a (0 ∷ 0 ∷ 0 ∷ 0 ∷ 0 ∷ 0 ∷ []) → b ≡ true → 0 ∷ 0 ∷ 0 ∷ 0 ∷ 0 ∷ 0 ∷ [] ≡ row_of (finals_in numbers from a)
final_idle numbers from a b e t =
    final_zeros numbers from ∙ sym (ap (λ (l : List ℕ). row_of (finals_in numbers from l)) (same_row_lem a (0 ∷ 0 ∷ 0 ∷ 0 ∷ 0 ∷ 0 ∷ []) (sym (e ∙ same_places a _) ∙ t)))

-- ---- the upper neighbours of a point cell

module _ (e : Triple) (p : ℕ) (level : order e p ≡ 0) where
  abbrev wide : ℕ
  wide = 2 * e.x - 1

  abbrev layer : ℕ
  layer = (2 * e.x - 1) * (2 * e.y - 1)

  point_odds : odds e p ≡ 1 ∷ wide ∷ layer ∷ []
  unfolding order stride_if stride sides
  point_odds = odds_are e p 1 1 1 (omega (arith, odd_lt e p X, odd_lt e p Y, odd_lt e p Z, level)) (omega (arith, odd_lt e p X, odd_lt e p Y, odd_lt e p Z, level)) (omega (arith, odd_lt e p X, odd_lt e p Y, odd_lt e p Z, level))

  module _ (m : List ℕ) where
    pub point_around : get_or m (p - 1) 0 ∷ get_or m (p + 1) 0 ∷ get_or m (p - wide) 0 ∷ get_or m (p + wide) 0 ∷ get_or m (p - layer) 0 ∷ get_or m (p + layer) 0 ∷ [] ≡ numbers_at m (upper_neighbours e p)
    unfolding around
    point_around = rw (up_around e p, point_odds)

    module _ (size : length m ≡ cells e) (h : p < cells e) where
      pub reads_x : Reads m p 1
      reads_x = reads e m p size h [] 1 (wide ∷ layer ∷ []) point_odds

      pub reads_y : Reads m p wide
      reads_y = reads e m p size h (1 ∷ []) wide (layer ∷ []) point_odds

      pub reads_z : Reads m p layer
      reads_z = reads e m p size h (1 ∷ wide ∷ []) layer [] point_odds

-- the row of a cell, where a holds the numbers of its upper neighbours
pub row_of_around : (e : Triple) (numbers : List ℕ) (from : ℕ) (m : List ℕ) (p : ℕ) (a row : List ℕ) → a ≡ numbers_at m (upper_neighbours e p) → row ≡ row_of (finals_in numbers from a) → row ≡ found_row e numbers from m p
unfolding found_row finals_in
row_of_around e numbers from m p a row i k = k ∙ rw i (ap row_of (map-map (final_in numbers from) (λ q. get_or m q 0) (upper_neighbours e p)))

-- ---- the points among the cells of a list

module _ (e : Triple) (numbers : List ℕ) (from : ℕ) (m : List ℕ) where
  abbrev found : List ℕ → List ℕ
  found = found_among e numbers from m

  pub found_append : (ps qs : List ℕ) → found (ps ++ qs) ≡ found ps ++ found qs
  unfolding found_among
  found_append ps qs = keep_append (λ p. occupied (found_row e numbers from m p)) ps qs

  pub found_none : found [] ≡ []
  unfolding found_among
  found_none = refl

  pub found_length : (ps qs : List ℕ) → length (found (ps ++ qs)) ≡ length (found ps) + length (found qs)
  found_length ps qs = ap length (found_append ps qs) ∙ length-append (found ps) (found qs)

  -- one cell, whose row is given
  module _ (p : ℕ) (row : List ℕ) (is : row ≡ found_row e numbers from m p) where
    pub cell_none : get_or row 0 0 ≡ 0 → found (p ∷ []) ≡ []
    unfolding found_among occupied
    cell_none z = rw (← is, eq-eqb (get_or row 0 0) 0 z)

    pub cell_one : get_or row 0 0 ≢ 0 → found (p ∷ []) ≡ p ∷ []
    unfolding found_among occupied
    cell_one z = rw (← is, ne_eqb (get_or row 0 0) 0 z)

    pub count_one : (k : ℕ) → k ≡ mir.Val.bool_byte (not (eqb (get_or row 0 0) 0)) → k ≡ length (found (p ∷ []))
    count_one k e =
        e ∙ by_test (eqb (get_or row 0 0) 0)
        (λ t. rw (t, cell_none (eqb-true (get_or row 0 0) 0 t)))
        (λ t. rw (t, cell_one (eqb-false (get_or row 0 0) 0 t)))

  -- n points so far, and those ahead, make all
  pub counted_next : (ps qs rs : List ℕ) (n k t : ℕ) → rs ≡ ps ++ qs → k ≡ length (found ps) → n + length (found rs) ≡ t → n + k + length (found qs) ≡ t
  counted_next ps qs rs n k t s i c = let d = ap (λ (l : List ℕ). length (found l)) s ∙ found_length ps qs in omega arith

  pub counted_all : (rs : List ℕ) (n t : ℕ) → rs ≡ [] → n + length (found rs) ≡ t → n ≡ t
  counted_all rs n t s c = let d = ap (λ (l : List ℕ). length (found l)) s ∙ ap length found_none in omega arith

-- ---- line after line

module _ (e : Triple) (numbers : List ℕ) (from : ℕ) (m : List ℕ) where
  -- the points from the first line on are all
  pub found_all : found_among e numbers from m (from_line e 0 0) ≡ found_cells e numbers from m
  unfolding found_cells
  found_all = ap (found_among e numbers from m) (from_first e 0)

  pub found_few : length (found_cells e numbers from m) ≤ cells e
  unfolding found_cells found_among of_order tabulate
  found_few =
      let n = length-consecutive 0 (cells e) in
      omega (arith, length-keep (λ p. occupied (found_row e numbers from m p)) (of_order e 0), length-keep (λ p. eqb (order e p) 0) (consecutive 0 (cells e)))

  module _ (l n : ℕ) (c : n + length (found_among e numbers from m (from_line e 0 l)) ≡ length (found_cells e numbers from m)) where
    pub lines_next : l < line_count e → (k : ℕ) → k ≡ n + length (found_among e numbers from m (on_line e 0 l)) → k + length (found_among e numbers from m (from_line e 0 (l + 1))) ≡ length (found_cells e numbers from m)
    lines_next h k i = rw i (counted_next e numbers from m (on_line e 0 l) (from_line e 0 (l + 1)) (from_line e 0 l) n _ _ (from_next e 0 l h) refl c)

    pub lines_room : Sized 64 e → l < line_count e → n + length (found_among e numbers from m (on_line e 0 l)) < 4294967296
    lines_room s h = omega (arith, lines_next h _ refl, found_few, cells_high s)

    pub lines_last : line_count e ≤ l → n ≡ length (found_cells e numbers from m)
    lines_last h = counted_all e numbers from m (from_line e 0 l) n _ (from_last e 0 l h) c
