-- The volumes of document 01, "Volumes to try", that are marked *, Figure 5 of document 003, and volumes with space around or inside (document 02, item 4): what is asked of
-- each, and the numbers listed.
-- Assumes nothing.
use Rattle.std.specs.Prelude.{cond, List, [], ◌∷◌, ◌++◌, map, ℕ, get_or, replicate}
use Rattle.lists.specs.Lists.{tabulate, zeros}
use Rattle.cells.specs.Box.{triple, volume}
use Rattle.cells.specs.declared.Triple.{Triple}
use Rattle.cells.specs.Grid.{cells, upper_neighbours}
use Rattle.labels.specs.Number.{labels}
use Rattle.labels.specs.Components.{largest, component_row}
use Rattle.labeller.specs.Labelling.{labelling}
use Rattle.cutting.specs.Cutting.{Cutting, good_cut, block_extents, block_codes}
use Rattle.joiner.specs.Job.{Told, Closed, same_stage}
use Rattle.theory_model.specs.Scripts.{Contents, Outcome, joined_up}
use Rattle.theory_model.specs.Volumes.{told}

-- What is asked of a volume.
pub data Question : Type 0 where
  -- the refusal that `label` answers for a block of these extents, 0 for none: its codes are all 1, its trays have the stated lengths
  size : Triple → Question
  -- the refusal that it answers for these codes
  refusal_of : Triple → List ℕ → Question
  -- the map of a volume
  map_of : Triple → List ℕ → Question
  -- how many faces, curves and points it has
  counts : Triple → List ℕ → Question
  -- the row of a component, by order and number
  row_of : Triple → List ℕ → ℕ → ℕ → Question
  -- the numbers at the upper neighbours of a cell, by position
  near : Triple → List ℕ → ℕ → Question
  -- the map of a block of a cut volume, none where a cut list breaks its rule
  block : Cutting → List ℕ → ℕ → Question
  -- what the closed job of a cut volume holds, with these entries in its tables
  joined : Told → List ℕ → Question

-- First positions and rows of a kind.
unfoldable pub positions_and_rows : Contents → List ℕ
positions_and_rows h = h.firsts ++ h.rows

-- What a closed job holds: how many faces, curves and points, then first positions and rows of the faces, of the curves and of the points.
unfoldable pub closed_job : Outcome → List ℕ
closed_job o =
    cond (same_stage o.stage Closed)
    (o.faces.many ∷ o.curves.many ∷ o.points.many ∷ positions_and_rows o.faces ++ positions_and_rows o.curves ++ positions_and_rows o.points) []

-- What the definitions answer.
unfoldable pub answer : Question → List ℕ
answer (size e) = (labelling e (tabulate (volume e) (λ i. 1)) (zeros (cells e)) (zeros (cells e))).answer.refusal ∷ []
answer (refusal_of e codes) = (labelling e codes (zeros (cells e)) (zeros (cells e))).answer.refusal ∷ []
answer (map_of e codes) = labels e codes
answer (counts e codes) = map (λ j. largest e (labels e codes) j) (2 ∷ 1 ∷ 0 ∷ [])
answer (row_of e codes j n) = component_row e (labels e codes) j n
answer (near e codes p) = map (λ q. get_or (labels e codes) q 0) (upper_neighbours e p)
answer (block k codes b) = cond (good_cut k) (labels (block_extents k b) (block_codes k b codes)) []
answer (joined o codes) = closed_job (joined_up o codes)

-- A question with the answer that is listed.
pub record Listed : Type 0 where
  pub question : Question
  pub listed : List ℕ

abbrev pub ask : Question → List ℕ → Listed
ask q l = record { question = q; listed = l }

-- A 3×1×1 volume of codes 1 2 1, cut 0 1 2.
unfoldable pub line : Cutting
line = record { extents = triple 3 1 1; cx = 0 ∷ 1 ∷ 2 ∷ []; cy = 0 ∷ []; cz = 0 ∷ [] }

unfoldable pub line_codes : List ℕ
line_codes = 1 ∷ 2 ∷ 1 ∷ []

-- A 2×3×1 volume, left column 1, right column 2, y cut 0 1 2.
unfoldable pub columns : Cutting
columns = record { extents = triple 2 3 1; cx = 0 ∷ 1 ∷ []; cy = 0 ∷ 1 ∷ 2 ∷ []; cz = 0 ∷ [] }

unfoldable pub column_codes : List ℕ
column_codes = 1 ∷ 2 ∷ 1 ∷ 2 ∷ 1 ∷ 2 ∷ []

-- 2×2×2, codes 1 to 8.
unfoldable pub cube : List ℕ
cube = 1 ∷ 2 ∷ 3 ∷ 4 ∷ 5 ∷ 6 ∷ 7 ∷ 8 ∷ []

-- Figure 5a of document 003, 3×3×2.
unfoldable pub figure : List ℕ
figure = 1 ∷ 1 ∷ 1 ∷ 1 ∷ 2 ∷ 1 ∷ 1 ∷ 1 ∷ 3 ∷ 4 ∷ 4 ∷ 4 ∷ 4 ∷ 5 ∷ 4 ∷ 4 ∷ 4 ∷ 6 ∷ []

-- Codes 0 0 0, cut as the line (document 02, item 4).
unfoldable pub zero_codes : List ℕ
zero_codes = 0 ∷ 0 ∷ 0 ∷ []

-- A hole inside: 3×3×3 of code 1, but 0 in the middle.
unfoldable pub hole : List ℕ
hole = replicate 13 1 ++ 0 ∷ replicate 13 1

-- A core of two voxels, 5 and 7, with space on all six sides, 4×3×3, cut through the core on all axes.
unfoldable pub core_cut : Cutting
core_cut = record { extents = triple 4 3 3; cx = 0 ∷ 2 ∷ 3 ∷ []; cy = 0 ∷ 1 ∷ 2 ∷ []; cz = 0 ∷ 1 ∷ 2 ∷ [] }

unfoldable pub core_codes : List ℕ
core_codes = zeros 17 ++ 5 ∷ 7 ∷ zeros 17

-- The table, in the order of document 01; then Figure 5b and the counts given for it; then volumes with space: 5 0, as item 4 has it, 1 0 / 0 2, zeros only, a hole, a core.
unfoldable pub volumes : List Listed
volumes =
    ask (map_of (triple 1 1 1) (9 ∷ [])) (9 ∷ []) ∷
    ask (counts (triple 1 1 1) (9 ∷ [])) (0 ∷ 0 ∷ 0 ∷ []) ∷
    ask (size (triple 0 1 1)) (1 ∷ []) ∷
    ask (size (triple 1 65 1)) (1 ∷ []) ∷
    ask (size (triple 64 1 1)) (0 ∷ []) ∷
    ask (map_of (triple 2 1 1) (1 ∷ 2 ∷ [])) (1 ∷ 1 ∷ 2 ∷ []) ∷
    ask (counts (triple 2 1 1) (1 ∷ 2 ∷ [])) (1 ∷ 0 ∷ 0 ∷ []) ∷
    ask (row_of (triple 2 1 1) (1 ∷ 2 ∷ []) 2 1) (1 ∷ 2 ∷ 0 ∷ 0 ∷ 0 ∷ 0 ∷ []) ∷
    ask (map_of (triple 2 2 1) (1 ∷ 1 ∷ 1 ∷ 2 ∷ [])) (1 ∷ 0 ∷ 1 ∷ 0 ∷ 0 ∷ 1 ∷ 1 ∷ 1 ∷ 2 ∷ []) ∷
    ask (near (triple 2 2 1) (1 ∷ 1 ∷ 1 ∷ 2 ∷ []) 4) (0 ∷ 1 ∷ 0 ∷ 1 ∷ []) ∷
    ask (map_of (triple 2 2 1) (1 ∷ 2 ∷ 3 ∷ 4 ∷ [])) (1 ∷ 1 ∷ 2 ∷ 2 ∷ 1 ∷ 3 ∷ 3 ∷ 4 ∷ 4 ∷ []) ∷
    ask (row_of (triple 2 2 1) (1 ∷ 2 ∷ 3 ∷ 4 ∷ []) 1 1) (1 ∷ 2 ∷ 3 ∷ 4 ∷ 0 ∷ 0 ∷ []) ∷
    ask (map_of (triple 2 2 1) (1 ∷ 2 ∷ 2 ∷ 1 ∷ [])) (1 ∷ 1 ∷ 2 ∷ 1 ∷ 0 ∷ 1 ∷ 2 ∷ 1 ∷ 1 ∷ []) ∷
    ask (map_of (triple 2 2 1) (1 ∷ 1 ∷ 2 ∷ 3 ∷ [])) (1 ∷ 0 ∷ 1 ∷ 1 ∷ 1 ∷ 2 ∷ 2 ∷ 3 ∷ 3 ∷ []) ∷
    ask (block line line_codes 0) (1 ∷ 1 ∷ 2 ∷ []) ∷
    ask (block line line_codes 1) (2 ∷ 1 ∷ 1 ∷ []) ∷
    ask (map_of line.extents line_codes) (1 ∷ 1 ∷ 2 ∷ 2 ∷ 1 ∷ []) ∷
    ask (counts line.extents line_codes) (2 ∷ 0 ∷ 0 ∷ []) ∷
    ask (joined (told line 2 0 0) line_codes) (2 ∷ 0 ∷ 0 ∷ 1 ∷ 3 ∷ 1 ∷ 2 ∷ 1 ∷ 2 ∷ []) ∷
    ask (block columns column_codes 0) (1 ∷ 1 ∷ 2 ∷ 0 ∷ 0 ∷ 0 ∷ 1 ∷ 1 ∷ 2 ∷ []) ∷
    ask (block columns column_codes 1) (1 ∷ 1 ∷ 2 ∷ 0 ∷ 0 ∷ 0 ∷ 1 ∷ 1 ∷ 2 ∷ []) ∷
    ask (map_of columns.extents column_codes) (1 ∷ 1 ∷ 2 ∷ 0 ∷ 0 ∷ 0 ∷ 1 ∷ 1 ∷ 2 ∷ 0 ∷ 0 ∷ 0 ∷ 1 ∷ 1 ∷ 2 ∷ []) ∷
    ask (counts columns.extents column_codes) (1 ∷ 0 ∷ 0 ∷ []) ∷
    ask (joined (told columns 2 0 0) column_codes) (1 ∷ 0 ∷ 0 ∷ 1 ∷ 1 ∷ 2 ∷ []) ∷
    ask (counts (triple 2 2 2) cube) (12 ∷ 6 ∷ 1 ∷ []) ∷
    ask (row_of (triple 2 2 2) cube 0 1) (1 ∷ 2 ∷ 3 ∷ 4 ∷ 5 ∷ 6 ∷ []) ∷
    ask (map_of (triple 3 3 2) figure)
    (1 ∷ 0 ∷ 1 ∷ 0 ∷ 1 ∷ 0 ∷ 0 ∷ 1 ∷ 0 ∷ 0 ∷ 1 ∷ 1 ∷ 2 ∷ 1 ∷ 1 ∷ 0 ∷ 0 ∷ 1 ∷ 0 ∷ 2 ∷ 1 ∷ 0 ∷ 1 ∷ 2 ∷ 3 ∷ 3 ∷ 0 ∷ 3 ∷ 0 ∷ 3 ∷ 0 ∷ 0 ∷ 1 ∷ 0 ∷ 0 ∷ 3 ∷ 1 ∷ 4 ∷ 1 ∷ 3 ∷ 0 ∷ 0 ∷ 1 ∷ 0 ∷ 2 ∷ 3 ∷ 0 ∷ 3 ∷ 2 ∷ 5 ∷ 4 ∷ 0 ∷ 4 ∷ 0 ∷ 4 ∷ 0 ∷ 0 ∷ 6 ∷ 0 ∷ 0 ∷ 4 ∷ 6 ∷ 5 ∷ 6 ∷ 4 ∷ 0 ∷ 0 ∷ 6 ∷ 0 ∷ 7 ∷ 4 ∷ 0 ∷ 4 ∷ 7 ∷ 6 ∷ []) ∷
    ask (counts (triple 3 3 2) figure) (7 ∷ 2 ∷ 0 ∷ []) ∷
    ask (refusal_of (triple 2 1 1) (5 ∷ 0 ∷ [])) (0 ∷ []) ∷
    ask (map_of (triple 2 1 1) (5 ∷ 0 ∷ [])) (5 ∷ 1 ∷ 0 ∷ []) ∷
    ask (row_of (triple 2 1 1) (5 ∷ 0 ∷ []) 2 1) (5 ∷ 0 ∷ 0 ∷ 0 ∷ 0 ∷ 0 ∷ []) ∷
    ask (map_of (triple 2 2 1) (1 ∷ 0 ∷ 0 ∷ 2 ∷ [])) (1 ∷ 1 ∷ 0 ∷ 1 ∷ 0 ∷ 2 ∷ 0 ∷ 2 ∷ 2 ∷ []) ∷
    ask (counts (triple 2 2 1) (1 ∷ 0 ∷ 0 ∷ 2 ∷ [])) (2 ∷ 0 ∷ 0 ∷ []) ∷
    ask (row_of (triple 2 2 1) (1 ∷ 0 ∷ 0 ∷ 2 ∷ []) 2 1) (1 ∷ 0 ∷ 0 ∷ 0 ∷ 0 ∷ 0 ∷ []) ∷
    ask (row_of (triple 2 2 1) (1 ∷ 0 ∷ 0 ∷ 2 ∷ []) 2 2) (2 ∷ 0 ∷ 0 ∷ 0 ∷ 0 ∷ 0 ∷ []) ∷
    ask (refusal_of line.extents zero_codes) (0 ∷ []) ∷
    ask (map_of line.extents zero_codes) (0 ∷ 0 ∷ 0 ∷ 0 ∷ 0 ∷ []) ∷
    ask (joined (told line 0 0 0) zero_codes) (0 ∷ 0 ∷ 0 ∷ []) ∷
    ask (counts (triple 3 3 3) hole) (1 ∷ 0 ∷ 0 ∷ []) ∷
    ask (row_of (triple 3 3 3) hole 2 1) (1 ∷ 0 ∷ 0 ∷ 0 ∷ 0 ∷ 0 ∷ []) ∷
    ask (counts core_cut.extents core_codes) (3 ∷ 1 ∷ 0 ∷ []) ∷
    ask (joined (told core_cut 16 4 0) core_codes) (3 ∷ 1 ∷ 0 ∷ 51 ∷ 53 ∷ 87 ∷ 5 ∷ 0 ∷ 7 ∷ 0 ∷ 5 ∷ 7 ∷ 52 ∷ 1 ∷ 2 ∷ 3 ∷ 0 ∷ []) ∷
    []
