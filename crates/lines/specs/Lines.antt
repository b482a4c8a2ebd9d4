-- Cells line by line: line l holds the cells from l times the grid's width on, and all of them have the same parity on y and z.
-- Assumes nothing.
use Rattle.std.specs.Prelude.{ℕ, zero, suc, ◌+◌, ◌-◌, ◌*◌, ◌/◌, ◌%◌, ◌≡◌, cond, List, [], ◌∷◌, ◌++◌, eqb}
use Rattle.cells.specs.Box.{stride}
use Rattle.cells.specs.declared.Axis.TheVariants.{X, Y, Z}
use Rattle.cells.specs.declared.Triple.{Triple}
use Rattle.cells.specs.Grid.{sides, parity}
use Rattle.cells.specs.Steps.{step_at, step_length}
use Rattle.lines.specs.declared.Line.{Line}
use Rattle.lines.specs.declared.StridedLine.{StridedLine}

-- The stride of an axis, where it is odd.
unfoldable pub stride_if : ℕ → ℕ → List ℕ
stride_if zero s = []
stride_if (suc k) s = s ∷ []

-- The strides of the odd axes of cell p, x first.
unfoldable pub odds : Triple → ℕ → List ℕ
odds e p = stride_if (parity e p X) (stride (sides e) X) ++ stride_if (parity e p Y) (stride (sides e) Y) ++ stride_if (parity e p Z) (stride (sides e) Z)

-- The cells one stride down and up from p, for each stride of a list.
unfoldable pub around : ℕ → List ℕ → List ℕ
around p [] = []
around p (s ∷ ss) = (p - s) ∷ (p + s) ∷ around p ss

-- How many lines the grid has.
unfoldable pub line_count : Triple → ℕ
line_count e = (sides e).y * (sides e).z

-- Whether line l is odd on y, and on z: 1 or 0.
unfoldable pub line_y : Triple → ℕ → ℕ
line_y e l = l % (sides e).y % 2

unfoldable pub line_z : Triple → ℕ → ℕ
line_z e l = l / (sides e).y % 2

-- Where the cells of a line with n odd axes begin, if q axes of the line are odd and it has w cells: at 0, at 1, or nowhere.
unfoldable pub first_x : ℕ → ℕ → ℕ → ℕ
first_x n q w = cond (eqb n q) 0 (cond (eqb n (suc q)) 1 w)

-- The first stride of the odd axes of a cell, by the parities of its x and y: how far the first step of its pattern goes. That of z counts
-- only where x and y are even, and there z is odd.
unfoldable pub first_stride : ℕ → ℕ → ℕ → ℕ → ℕ
first_stride x y w wh = step_length w wh (step_at (x % 2 + 2 * (y % 2) + 4) 0)

-- The last stride of two or more, by the parity of its z: that of the last steps where x, y and z are odd, or x and y.
unfoldable pub last_stride : ℕ → ℕ → ℕ → ℕ
last_stride z w wh = step_length w wh (step_at (3 + 4 * (z % 2)) (2 + 2 * (z % 2)))

-- Cell p has n odd axes, 1 to 3: a is the first stride, b the last one of two or more, and w the middle one of three.
pub data Strided (e : Triple) (p : ℕ) : ℕ → ℕ → ℕ → ℕ → Type 0 where
  one : {a w b : ℕ} → odds e p ≡ a ∷ [] → Strided e p 1 a w b
  two : {a w b : ℕ} → odds e p ≡ a ∷ b ∷ [] → Strided e p 2 a w b
  three : {a w b : ℕ} → odds e p ≡ a ∷ w ∷ b ∷ [] → Strided e p 3 a w b

-- Line l, told for its cells with n odd axes.
pub record LineAt (e : Triple) (n l : ℕ) (r : Line) : Type 0 where
  pub width : r.width ≡ (sides e).x
  pub base : r.base ≡ l * (sides e).x
  pub start : r.start ≡ first_x n (line_y e l + line_z e l) (sides e).x
  pub count : r.count ≡ (r.width - r.start + 1) / 2

-- .. with their strides.
pub record StridedAt (e : Triple) (n l : ℕ) (r : StridedLine) : Type 0 where
  pub line : LineAt e n l r.line
  pub first : r.strides.first ≡ first_stride r.line.start (line_y e l) (stride (sides e) Y) (stride (sides e) Z)
  pub middle : r.strides.middle ≡ stride (sides e) Y
  pub last : r.strides.last ≡ last_stride (line_z e l) (stride (sides e) Y) (stride (sides e) Z)
