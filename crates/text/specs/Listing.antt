-- The text that the listing program prints. A text is its bytes, in ASCII.
-- Assumes nothing.
use Rattle.std.specs.Prelude.{cond, List, [], ◌∷◌, ◌++◌, ℕ, ◌-◌, ◌*◌, eqb, get_or, take}
use Rattle.lists.specs.Lists.{consecutive}
use Rattle.decimals.specs.Decimals.{decimal_digits}
use Rattle.cells.specs.Box.{place}
use Rattle.cells.specs.declared.Triple.{Triple}
use Rattle.cells.specs.Grid.{sides}
use Rattle.labels.specs.Number.{labels}
use Rattle.labels.specs.Components.{largest, first_cell, component_row}
use Rattle.text.specs.Request.{text_refusal, asked_extents, asked_codes}

-- Numbers, each after a space.
unfoldable pub spaced : List ℕ → List ℕ
spaced [] = []
spaced (n ∷ ns) = (32 ∷ decimal_digits n) ++ spaced ns

-- f, c or p.
unfoldable pub letter : ℕ → ℕ
letter j = get_or (112 ∷ 99 ∷ 102 ∷ []) j 0

-- A row of two, four or six.
unfoldable pub width : ℕ → ℕ
width j = 6 - 2 * j

-- A cell "as x y z in cells".
unfoldable pub coordinates : Triple → ℕ → List ℕ
coordinates e p = (place (sides e) p).x ∷ (place (sides e) p).y ∷ (place (sides e) p).z ∷ []

-- "Kind letter (f, c, p), number, first cell as x y z in cells, row of two, four or six."
unfoldable pub line : Triple → List ℕ → ℕ → ℕ → List ℕ
line e m j n =
    (letter j ∷ []) ++ spaced (n ∷ []) ++ spaced (coordinates e (first_cell e m j n)) ++ spaced (take (width j) (component_row e m j n)) ++ (10 ∷ [])

-- The lines of the components with these numbers.
unfoldable pub lines_for : Triple → List ℕ → ℕ → List ℕ → List ℕ
lines_for e m j [] = []
lines_for e m j (n ∷ ns) = line e m j n ++ lines_for e m j ns

-- "Each kind by number."
unfoldable pub lines_of : Triple → List ℕ → ℕ → List ℕ
lines_of e m j = lines_for e m j (consecutive 1 (largest e m j))

-- The words faces, curves and points, each before its count, which has a space before it.
unfoldable pub heading : Triple → List ℕ → List ℕ
heading e m =
    (102 ∷ 97 ∷ 99 ∷ 101 ∷ 115 ∷ []) ++ spaced (largest e m 2 ∷ []) ++
    (32 ∷ 99 ∷ 117 ∷ 114 ∷ 118 ∷ 101 ∷ 115 ∷ []) ++ spaced (largest e m 1 ∷ []) ++
    (32 ∷ 112 ∷ 111 ∷ 105 ∷ 110 ∷ 116 ∷ 115 ∷ []) ++ spaced (largest e m 0 ∷ []) ++ (10 ∷ [])

-- "The heading gives the three counts. After it come faces, then curves, then points": the listing of a map.
unfoldable pub listing : Triple → List ℕ → List ℕ
listing e m = heading e m ++ lines_of e m 2 ++ lines_of e m 1 ++ lines_of e m 0

-- "A refusal prints only one line, `refused`, a space and its number."
unfoldable pub refused_line : ℕ → List ℕ
refused_line n = (114 ∷ 101 ∷ 102 ∷ 117 ∷ 115 ∷ 101 ∷ 100 ∷ []) ++ spaced (n ∷ []) ++ (10 ∷ [])

-- What the program prints for the text that it reads.
unfoldable pub printed : List ℕ → List ℕ
printed text =
    cond (eqb (text_refusal text) 0) (listing (asked_extents text) (labels (asked_extents text) (asked_codes text))) (refused_line (text_refusal text))
