-- The walk of a pass: along a line, over its cells with n odd axes, and from line to line.
-- Assumes nothing.
use mathlib.Core.Path.{◌≡◌, refl, ◌∙◌}
use mathlib.Core.Bool.{Bool, cond}
use mathlib.Core.List.{List, [], ◌∷◌, ◌++◌}
use Prim.Native.Nat.{ℕ, zero, suc, ◌+◌, ◌-◌, ◌*◌, ◌%◌, ◌^◌, ◌≤◌, ◌<◌}
use native.Mathlib.Nat.{mul-le-mul_right}
use native.Mathlib.Omega.{arith}
use lib.Dec.{eqb}
use borrow.Author.Tests.{eq-eqb, ne_eqb}
use Rattle.lists.specs.Lists.{consecutive, keep}
use Rattle.lists.proofs.Lists.{keep_append}
use Rattle.cells.specs.Box.{stride}
use Rattle.cells.specs.declared.Triple.{Triple}
use Rattle.cells.specs.Extents.{Sized}
use Rattle.cells.specs.Grid.{sides, cells, order}
use Rattle.cells.proofs.ExtentLaws.{cells_high}
use Rattle.lines.specs.Lines.{line_count, line_y, line_z, first_x, Strided, LineAt, StridedAt}
use Rattle.lines.specs.declared.Line.{Line}
use Rattle.lines.specs.declared.StridedLine.{StridedLine}
use Rattle.lines.proofs.LineLaws.{cells_lines, next_line, line_order, line_inside, line_odd, line_strides, Tests, line_start, line_next, line_end, order_tests, first_within}

-- A line ends within the grid, and its positions are small.
pub line_room : (e : Triple) {l : ℕ} → l < line_count e → l * (sides e).x + (sides e).x ≤ cells e
line_room e {l} h =
    let m : (l + 1) * (sides e).x ≤ line_count e * (sides e).x = mul-le-mul_right (sides e).x (omega arith) in
    omega (arith, cells_lines e)

pub line_fits : {e : Triple} {l : ℕ} → Sized 64 e → l < line_count e → l * (sides e).x + (sides e).x ≤ 2048383
line_fits {e} s h = omega (arith, line_room e h, cells_high s)

-- The cell at x of line l, if there is one, has n odd axes.
pub record Walking (e : Triple) (n l x : ℕ) : Type 0 where
  pub passes : x < (sides e).x → n ≡ x % 2 + (line_y e l + line_z e l)

pub walk_next : {e : Triple} {n l x : ℕ} → Walking e n l x → Walking e n l (x + 2)
walk_next {e} {n} {l} {x} W = record { passes = λ h. let p = W.passes (omega arith) in omega arith }

-- The test for an order, by how many axes are odd.
pub odd_tests : (e : Triple) (n j l : ℕ) → n + j ≡ 3 → Tests (λ p. eqb (order e p) j) (l * (sides e).x) (sides e).x n (line_y e l + line_z e l)
odd_tests e n j l h = let s : 3 - j ≡ n = omega arith in rw (← s) (order_tests e j l (omega arith))

-- Where the cells begin, by the parity of one of them.
pub first_parity : (n q w x : ℕ) → n ≡ x % 2 + q → first_x n q w ≡ x % 2
unfolding first_x
first_parity n q w x p = by_parity (x % 2) (omega arith) p
  where
    by_parity : (k : ℕ) → k < 2 → n ≡ k + q → cond (eqb n q) 0 (cond (eqb n (suc q)) 1 w) ≡ k
    by_parity zero h i = rw (eq-eqb n q (omega arith))
    by_parity (suc zero) h i = rw (ne_eqb n q (λ j. omega arith), eq-eqb n (suc q) (omega arith))
    by_parity (suc (suc k)) h i = absurd (omega arith)

-- The cells of a line from x on that pass a test, and those from line l on.
unfoldable pub ahead : (ℕ → Bool) → Line → ℕ → List ℕ
ahead f r x = keep f (consecutive (r.base + x) (r.width - x))

unfoldable pub onwards : (ℕ → Bool) → Triple → ℕ → List ℕ
onwards f e l = keep f (consecutive (l * (sides e).x) (cells e - l * (sides e).x))

module _ {e : Triple} {n l : ℕ} {r : Line} (L : LineAt e n l r) where
  -- The first cell has n odd axes, and so has each one at an even distance from it.
  pub walk_even : {x : ℕ} → r.start ≤ x → x % 2 ≡ r.start % 2 → Walking e n l x
  walk_even {x} low even = record { passes = λ h. (line_odd n (line_y e l + line_z e l) (sides e).x {x = x} L.start low even h).1 }

  pub walk_first : Walking e n l r.start
  walk_first = walk_even (omega arith) refl

  pub walk_room : l < line_count e → r.base + r.width ≤ cells e
  walk_room k = rw (L.base, L.width) (line_room e k)

  pub walk_ends : Sized 64 e → l < line_count e → r.base + r.width ≤ 2048383
  walk_ends s k = rw (L.base, L.width) (line_fits s k)

  pub walk_begins : Sized 64 e → l < line_count e → r.base + r.start ≤ 2048383
  unfolding sides
  walk_begins s k = omega (arith, L.start, L.width, first_within n (line_y e l + line_z e l) (2 * e.x - 1) (omega (arith, s.x_low)), walk_ends s k)

  -- The cell at x lies in the grid, at a position that is small.
  module _ (x : ℕ) (h : x < r.width) where
    pub walk_inside : l < line_count e → r.base + x < cells e
    walk_inside k = rw L.base (line_inside e l x (omega (arith, L.width)) k)

    pub walk_fits : Sized 64 e → l < line_count e → r.base + x < 2048383
    walk_fits s k = omega (arith, walk_inside k, cells_high s)

    -- .. as the needs ask it: the sums fit, and a list with a place for each cell has this one.
    pub walk_sum : Sized 64 e → l < line_count e → r.base + x < 2 ^ 64
    walk_sum s k = omega (arith, walk_fits s k)

    pub walk_step : Sized 64 e → l < line_count e → x + 2 < 2 ^ 64
    walk_step s k = omega (arith, walk_fits s k)

    pub walk_read : l < line_count e → {m : ℕ} → m ≡ cells e → r.base + x < m
    walk_read k i = rw i (walk_inside k)

    pub walk_order : Walking e n l x → order e (r.base + x) ≡ 3 - n
    walk_order W = let k : x < (sides e).x = omega (arith, L.width) in rw L.base (line_order e l x k ∙ omega (arith, W.passes k))

  -- The first cell of the pass, the next one, two further on, and none past the end.
  module _ {f : ℕ → Bool} (T : Tests f (l * (sides e).x) (sides e).x n (line_y e l + line_z e l)) where
    pub cells_first : keep f (consecutive (l * (sides e).x) (sides e).x) ≡ ahead f r r.start
    unfolding ahead
    cells_first = rw (L.base, L.width, L.start) (line_start T)

    pub cells_next : {x : ℕ} → Walking e n l x → x < r.width → ahead f r x ≡ (r.base + x) ∷ ahead f r (x + 2)
    unfolding ahead
    cells_next {x} W h = let k : x < (sides e).x = omega (arith, L.width) in rw (L.base, L.width) (line_next T x k (W.passes k))

    pub cells_last : {x : ℕ} → r.width ≤ x → ahead f r x ≡ []
    unfolding ahead
    cells_last {x} h = rw (L.base, L.width) (line_end T x (omega (arith, L.width)))

-- A pass over a line cell by cell: the k-th one lies at an even distance from the first.
unfoldable pub rest_of : (ℕ → Bool) → Line → ℕ → List ℕ
rest_of f r k = ahead f r (r.start + 2 * k)

module _ {e : Triple} {n l : ℕ} {r : Line} (L : LineAt e n l r) where
  pub cell_within : {k : ℕ} → k < r.count → r.start + 2 * k < r.width
  cell_within h = omega (arith, L.count)

  pub cell_walks : (k : ℕ) → Walking e n l (r.start + 2 * k)
  cell_walks k = walk_even L (omega arith) (omega arith)

  -- The sums of a turn fit, and a list with a place for each cell has this one.
  module _ {k : ℕ} (h : k < r.count) where
    pub cell_sum : Sized 64 e → l < line_count e → r.base + (r.start + 2 * k) < 2 ^ 64
    cell_sum s b = walk_sum L (r.start + 2 * k) (cell_within h) s b

    pub cell_step : Sized 64 e → l < line_count e → r.start + 2 * k < 2 ^ 64
    cell_step s b = omega (arith, cell_sum s b)

    pub cell_read : l < line_count e → {m : ℕ} → m ≡ cells e → r.base + (r.start + 2 * k) < m
    cell_read b i = walk_read L (r.start + 2 * k) (cell_within h) b i

  module _ {f : ℕ → Bool} (T : Tests f (l * (sides e).x) (sides e).x n (line_y e l + line_z e l)) where
    pub cell_first : keep f (consecutive (l * (sides e).x) (sides e).x) ≡ rest_of f r 0
    unfolding rest_of
    cell_first = let i : r.start + 2 * 0 ≡ r.start = omega arith in rw i (cells_first L T)

    pub cell_next : {k : ℕ} → k < r.count → rest_of f r k ≡ (r.base + (r.start + 2 * k)) ∷ rest_of f r (k + 1)
    unfolding rest_of
    cell_next {k} h =
        let i : r.start + 2 * (k + 1) ≡ r.start + 2 * k + 2 = omega arith in
        rw i (cells_next L T (cell_walks k) (cell_within h))

    pub cell_last : {k : ℕ} → r.count ≤ k → rest_of f r k ≡ []
    unfolding rest_of
    cell_last h = cells_last L T (omega (arith, L.count))

-- The strides of the cell at x.
pub walk_strided : {e : Triple} {n l x : ℕ} {r : StridedLine} → StridedAt e n l r → Walking e n l x → x < r.line.width → 0 < n
    → Strided e (r.line.base + x) n r.strides.first r.strides.middle r.strides.last
unfolding stride
walk_strided {e} {n} {l} {x} {r} S W h g =
    let L = S.line in
    let k : x < (sides e).x = omega (arith, L.width) in
    let p = W.passes k in
    rw (S.first, S.middle, S.last, L.base, L.start, first_parity n (line_y e l + line_z e l) (sides e).x x p) (line_strides e l x n k g p)

-- All cells, those of the next line, and none past the last line.
module _ (f : ℕ → Bool) (e : Triple) where
  pub lines_first : keep f (consecutive 0 (cells e)) ≡ onwards f e 0
  unfolding onwards
  lines_first =
      let z : 0 * (sides e).x ≡ 0 = omega arith in
      let n : cells e - 0 ≡ cells e = omega arith in
      rw (z, n)

  pub lines_next : {l : ℕ} → l < line_count e → onwards f e l ≡ keep f (consecutive (l * (sides e).x) (sides e).x) ++ onwards f e (l + 1)
  unfolding onwards
  lines_next {l} h = rw (next_line e l h, keep_append f)

  pub lines_last : {l : ℕ} → line_count e ≤ l → onwards f e l ≡ []
  unfolding onwards consecutive
  lines_last {l} h = let n : cells e - l * (sides e).x ≡ 0 = omega (arith, cells_lines e, mul-le-mul_right (sides e).x h) in rw n
