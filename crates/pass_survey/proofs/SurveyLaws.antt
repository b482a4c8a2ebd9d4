-- The largest number of a list of cells, along a line and from line to line.
-- Assumes nothing.
use mathlib.Core.Path.{◌≡◌, sym, ap, ◌∙◌}
use mathlib.Core.List.{List, [], ◌∷◌, ◌++◌}
use Prim.Native.Nat.{ℕ, ◌+◌, ◌≤◌, ◌<◌, max}
use native.Mathlib.Omega.{arith}
use lib.Dec.{eqb}
use lib.ListN.{get_or}
use Rattle.cells.specs.declared.Triple.{Triple}
use Rattle.cells.specs.Grid.{order}
use Rattle.labels.specs.Components.{of_order, largest}
use Rattle.lines.specs.Lines.{line_count}
use Rattle.lines.proofs.WalkLaws.{onwards, lines_first, lines_next, lines_last}
use Rattle.pass_survey.specs.Survey.{on_line, most, line_added}
use Rattle.counts.specs.declared.Counts.{Counts}

-- ---- lists

max_three : (a b c : ℕ) → max (max a b) c ≡ max a (max b c)
max_three a b c = omega arith

most_append : (m a b : List ℕ) (n : ℕ) → max n (most m (a ++ b)) ≡ max (max n (most m a)) (most m b)
unfolding most
most_append m [] b n = omega arith
most_append m (x ∷ a) b n = sym (max_three n (get_or m x 0) (most m (a ++ b))) ∙ most_append m a b (max n (get_or m x 0)) ∙ ap (λ (k : ℕ). max k (most m b)) (max_three n (get_or m x 0) (most m a))

-- ---- the next cell of a list, and none

module _ (m : List ℕ) where
  pub most_next : (k p v : ℕ) (ps : List ℕ) → v ≡ max k (get_or m p 0) → max v (most m ps) ≡ max k (most m (p ∷ ps))
  unfolding most
  most_next k p v ps i = rw i (max_three k (get_or m p 0) (most m ps))

  pub most_none : (k : ℕ) → k ≡ max k (most m [])
  unfolding most
  most_none k = omega arith

-- ---- the cells of order j from line l on

abbrev pub from_line : Triple → ℕ → ℕ → List ℕ
from_line e j l = onwards (λ p. eqb (order e p) j) e l

pub from_first : (e : Triple) (j : ℕ) → from_line e j 0 ≡ of_order e j
unfolding of_order
from_first e j = sym (lines_first (λ p. eqb (order e p) j) e)

pub from_next : (e : Triple) (j l : ℕ) → l < line_count e → from_line e j l ≡ on_line e j l ++ from_line e j (l + 1)
unfolding on_line
from_next e j l h = lines_next (λ p. eqb (order e p) j) e h

pub from_last : (e : Triple) (j l : ℕ) → line_count e ≤ l → from_line e j l ≡ []
from_last e j l h = lines_last (λ p. eqb (order e p) j) e h

-- The survey s of the lines before l, and what is ahead, give that of the map.
pub record Looked (e : Triple) (m : List ℕ) (l : ℕ) (s : Counts) : Type 0 where
  pub faces : max s.faces (most m (from_line e 2 l)) ≡ largest e m 2
  pub curves : max s.curves (most m (from_line e 1 l)) ≡ largest e m 1
  pub points : max s.points (most m (from_line e 0 l)) ≡ largest e m 0

module _ (e : Triple) (m : List ℕ) where
  most_all : (j : ℕ) → max 0 (most m (from_line e j 0)) ≡ largest e m j
  unfolding most largest
  most_all j = rw (from_first e j) (omega arith)

  pub looked_none : Looked e m 0 (record { faces = 0; curves = 0; points = 0 })
  looked_none = record { faces = most_all 2; curves = most_all 1; points = most_all 0 }

  module _ (l : ℕ) (h : l < line_count e) where
    most_line : (j k : ℕ) → max (max k (most m (on_line e j l))) (most m (from_line e j (l + 1))) ≡ max k (most m (from_line e j l))
    most_line j k = sym (ap (λ (ps : List ℕ). max k (most m ps)) (from_next e j l h) ∙ most_append m (on_line e j l) (from_line e j (l + 1)) k)

    pub looked_next : (s r : Counts) → Looked e m l s → r ≡ line_added e m l s → Looked e m (l + 1) r
    unfolding line_added
    looked_next s r L i =
        rw i
        (record {
          faces = most_line 2 s.faces ∙ L.faces;
          curves = most_line 1 s.curves ∙ L.curves;
          points = most_line 0 s.points ∙ L.points;
        })

  module _ (l : ℕ) (h : line_count e ≤ l) (s : Counts) (L : Looked e m l s) where
    most_last : (j k : ℕ) → k ≡ max k (most m (from_line e j l))
    unfolding most
    most_last j k = rw (from_last e j l h) (omega arith)

    pub looked_all : (s.faces ≡ largest e m 2) × ((s.curves ≡ largest e m 1) × (s.points ≡ largest e m 0))
    looked_all = (most_last 2 s.faces ∙ L.faces, (most_last 1 s.curves ∙ L.curves, most_last 0 s.points ∙ L.points))
