-- What the contracts of inner functions cite.
-- Assumes nothing.
use Rattle.std.specs.Prelude.{cond, Option, Some, None, ◌≡◌, ℕ, zero, suc, ◌+◌, ◌-◌, ◌*◌, ◌≤◌, ◌<◌, eqb, get_or, length}
use mathlib.Core.List.{List, [], ◌∷◌, ◌++◌, map, flat_map}
use Rattle.lists.specs.Lists.{consecutive, keep}
use Rattle.closure.specs.Joined.{Edge}
use Rattle.union_find.specs.Links.{root, Rooted}
use Rattle.cells.specs.declared.Triple.{Triple}
use Rattle.cells.specs.Grid.{sides, cells, order, upper_neighbours}
use Rattle.cells.specs.Row.{pad_to}
use Rattle.lines.specs.Lines.{Strided, around}
use Rattle.pass_cross.specs.CrossEdges.{edge_if, row_through, Room}

-- x is v, read through links that keep their roots.
pub record Read {A : Type 0} (above above' : List ℕ) (x v : A) : Type 0 where
  pub is : x ≡ v
  pub kept : Rooted above above' (root above)

-- The strides of the odd axes of a face cell, or of a curve cell.
unfoldable pub strides_of : ℕ → Option ℕ → List ℕ
strides_of a None = a ∷ []
strides_of a (Some b) = a ∷ b ∷ []

-- The row that the numbers at qs give cell p, read through links: zeros where p is not active.
unfoldable pub active_row : List ℕ → (ℕ → ℕ) → ℕ → ℕ → List ℕ → List ℕ
active_row m f from p qs = cond (eqb (get_or m p 0) 0) (pad_to 6 []) (row_through m f from qs)

-- .. of the cells one stride s down and up from t, whose odd axes have the strides ss.
unfoldable pub rows_along : List ℕ → (ℕ → ℕ) → ℕ → ℕ → ℕ → List ℕ → List (List ℕ)
rows_along m f from t s ss = active_row m f from (t - s) (around (t - s) ss) ∷ active_row m f from (t + s) (around (t + s) ss) ∷ []

-- .. of cell p of a block.
unfoldable pub cell_row : Triple → List ℕ → (ℕ → ℕ) → ℕ → ℕ → List ℕ
cell_row e m f from p = active_row m f from p (upper_neighbours e p)

-- .. of the cells ps.
unfoldable pub cell_rows : Triple → List ℕ → (ℕ → ℕ) → ℕ → List ℕ → List (List ℕ)
cell_rows e m f from ps = map (cell_row e m f from) ps

-- The first n rows, filled with rows of zeros.
abbrev pub pad_rows : ℕ → List (List ℕ) → List (List ℕ)
pad_rows zero rs = []
pad_rows (suc n) [] = pad_to 6 [] ∷ pad_rows n []
pad_rows (suc n) (r ∷ rs) = r ∷ pad_rows n rs

-- How many numbers are not 0.
abbrev pub count_active : List ℕ → ℕ
count_active [] = 0
count_active (x ∷ xs) = cond (eqb x 0) 0 1 + count_active xs

-- The edges from number x with row r to the numbers ys with the rows rs.
unfoldable pub edges_to : ℕ → ℕ → List ℕ → List ℕ → List (List ℕ) → List Edge
edges_to from x r [] rs = []
edges_to from x r (y ∷ ys) [] = []
edges_to from x r (y ∷ ys) (s ∷ rs) = edge_if from x y r s ++ edges_to from x r ys rs

-- The edges among numbers xs with the rows rs.
unfoldable pub edges_among : ℕ → List ℕ → List (List ℕ) → List Edge
edges_among from [] rs = []
edges_among from (x ∷ xs) [] = []
edges_among from (x ∷ xs) (r ∷ rs) = edges_to from x r xs rs ++ edges_among from xs rs

-- The edges that g gives at the cells of order i on line l.
unfoldable pub line_edges : (ℕ → List Edge) → Triple → ℕ → ℕ → List Edge
line_edges g e i l = flat_map g (keep (λ p. eqb (order e p) i) (consecutive (l * (sides e).x) (sides e).x))

-- The numbers one stride down and up from p are in the map, and their components among the first `size` places.
pub record Readable (m : List ℕ) (p s from size : ℕ) : Type 0 where
  pub low : s ≤ p
  pub high : p + s < length m
  pub down : from + get_or m (p - s) 0 ≤ size
  pub up : from + get_or m (p + s) 0 ≤ size

-- The row of cell p can be read by its strides.
pub record Near (m : List ℕ) (p a : ℕ) (b : Option ℕ) (from size : ℕ) : Type 0 where
  pub here : p < length m
  pub first : Readable m p a from size
  pub second : (s : ℕ) → b ≡ Some s → Readable m p s from size
  pub fits : size < 4294967296

-- So can those of the cells one stride s down and up from t.
pub record Beside (m : List ℕ) (t s a : ℕ) (b : Option ℕ) (from size : ℕ) : Type 0 where
  pub low : s ≤ t
  pub down : Near m (t - s) a b from size
  pub up : Near m (t + s) a b from size

-- Cell t of the map has n odd axes, two or three, of these strides.
pub record Meeting (e : Triple) (m : List ℕ) (n t a w b : ℕ) : Type 0 where
  pub whole : length m ≡ cells e
  pub inside : t < cells e
  pub many : 1 < n
  pub strided : Strided e t n a w b

-- Such a cell, and places for the components that meet there and those of the order above, in tables of so many links.
pub record CellTrays (e : Triple) (m : List ℕ) (n t a w b above start links from : ℕ) : Type 0 where
  pub at : Meeting e m n t a w b
  pub upper : Room e m (suc (suc (order e t))) start above
  pub own : Room e m (suc (order e t)) from links
