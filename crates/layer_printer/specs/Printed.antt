-- A printed slice (document 02, item 2): "one z layer of a block's map". A text is its bytes, in ASCII: 32 is a space, 35 a hash sign, 46 a dot, 10 a line end.
-- Assumes nothing.
use Rattle.std.specs.Prelude.{cond, ℕ, ◌+◌, ◌-◌, ◌*◌, ◌/◌, eqb, ltb, length, get_or, take, drop, replicate}
use mathlib.Core.List.{List, [], ◌∷◌, ◌++◌, flat_map}
use Rattle.lists.specs.Lists.{consecutive}
use Rattle.decimals.specs.Decimals.{decimal_digits}
use Rattle.cells.specs.declared.Triple.{Triple}
use Rattle.cells.specs.Grid.{sides}

-- "Right-aligned in 5 columns": spaces before a text of at most five bytes.
unfoldable pub right_aligned : List ℕ → List ℕ
right_aligned t = replicate (5 - length t) 32 ++ t

-- The five columns of a cell that holds n: "inactive is a dot in the last column, above 99,999 is five hash signs".
unfoldable pub cell_columns : ℕ → List ℕ
cell_columns n = cond (eqb n 0) (right_aligned (46 ∷ [])) (cond (ltb 99999 n) (replicate 5 35) (right_aligned (decimal_digits n)))

-- Place x of a line of cells: "places beyond the grid are blank".
unfoldable pub place_columns : List ℕ → ℕ → List ℕ
place_columns line x = cond (ltb x (length line)) (cell_columns (get_or line x 0)) (replicate 5 32)

-- The first n places of page p in a line of cells: "a page is 16 cells wide".
unfoldable pub first_places : List ℕ → ℕ → ℕ → List ℕ
first_places line p n = flat_map (λ k. place_columns line (16 * p + k)) (consecutive 0 n)

-- All 16, and the line end: "every line is 80 characters and a line end, byte 10".
unfoldable pub page_line : List ℕ → ℕ → List ℕ
page_line line p = first_places line p 16 ++ (10 ∷ [])

-- Line y of a layer whose lines have w cells.
unfoldable pub cell_line : ℕ → List ℕ → ℕ → List ℕ
cell_line w layer y = take w (drop (w * y) layer)

-- How many pages of 16 cells hold w cells.
unfoldable pub page_count : ℕ → ℕ
page_count w = (w + 15) / 16

-- Page p of a layer of h lines of w cells: "as tall as the layer", "the first line is y = 0".
unfoldable pub page : ℕ → ℕ → List ℕ → ℕ → List ℕ
page w h layer p = flat_map (λ y. page_line (cell_line w layer y) p) (consecutive 0 h)

-- "Layers wider than 16 cells go on over further pages, left to right."
unfoldable pub pages : ℕ → ℕ → List ℕ → List ℕ
pages w h layer = flat_map (page w h layer) (consecutive 0 (page_count w))

-- Layer z of the map m of a block of e voxels: the cells with that z, x fastest, then y.
unfoldable pub map_layer : Triple → ℕ → List ℕ → List ℕ
map_layer e z m = take ((sides e).x * (sides e).y) (drop ((sides e).x * (sides e).y * z) m)

-- What is printed of it.
unfoldable pub printed_layer : Triple → ℕ → List ℕ → List ℕ
printed_layer e z m = pages (sides e).x (sides e).y (map_layer e z m)
