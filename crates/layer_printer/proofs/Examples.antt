-- Numbers and a page, computed from the definitions.
-- Assumes nothing.
use mathlib.Core.Path.{◌≡◌, refl}
use mathlib.Core.List.{[], ◌∷◌, ◌++◌, map, flat_map}
use Prim.Native.Nat.{◌+◌, ◌*◌}
use lib.ListN.{replicate}
use Rattle.lists.specs.Lists.{consecutive}
use Rattle.decimals.specs.Decimals.{decimal_in, decimal_digits}
use Rattle.cells.specs.Box.{triple}
use Rattle.cells.specs.Grid.{sides}
use Rattle.layer_printer.specs.Printed.{right_aligned, cell_columns, place_columns, first_places, page_line, cell_line, page, page_count, pages, map_layer, printed_layer}

-- 0, 7, 10, 99,999, 100,000 and 4,294,967,295.
pub numbers_printed : map cell_columns (0 ∷ 7 ∷ 10 ∷ 99999 ∷ 100000 ∷ 4294967295 ∷ []) ≡
    (32 ∷ 32 ∷ 32 ∷ 32 ∷ 46 ∷ []) ∷
    (32 ∷ 32 ∷ 32 ∷ 32 ∷ 55 ∷ []) ∷
    (32 ∷ 32 ∷ 32 ∷ 49 ∷ 48 ∷ []) ∷
    (57 ∷ 57 ∷ 57 ∷ 57 ∷ 57 ∷ []) ∷
    (35 ∷ 35 ∷ 35 ∷ 35 ∷ 35 ∷ []) ∷
    (35 ∷ 35 ∷ 35 ∷ 35 ∷ 35 ∷ []) ∷ []
unfolding right_aligned cell_columns decimal_digits decimal_in
numbers_printed = refl

-- Layer 1 of a block of 9 × 2 × 2 voxels, whose cells hold 1, 2, 3, ..: 17 × 3 cells take two pages of three lines, and the last cell of each line stands first on the second.
pub two_pages : printed_layer (triple 9 2 2) 1 (consecutive 1 153) ≡
    flat_map (λ y. flat_map cell_columns (consecutive (52 + 17 * y) 16) ++ (10 ∷ [])) (0 ∷ 1 ∷ 2 ∷ []) ++
    flat_map (λ y. cell_columns (68 + 17 * y) ++ replicate 75 32 ++ (10 ∷ [])) (0 ∷ 1 ∷ 2 ∷ [])
unfolding consecutive decimal_in decimal_digits sides right_aligned cell_columns place_columns first_places page_line cell_line page page_count pages map_layer printed_layer flat_map
two_pages = refl

-- The map 1 1 2 / 2 1 3 / 3 4 4 of the codes 1 2 / 3 4 (document 01).
pub page_printed : printed_layer (triple 2 2 1) 0 (1 ∷ 1 ∷ 2 ∷ 2 ∷ 1 ∷ 3 ∷ 3 ∷ 4 ∷ 4 ∷ []) ≡
    ((32 ∷ 32 ∷ 32 ∷ 32 ∷ 49 ∷ []) ++ (32 ∷ 32 ∷ 32 ∷ 32 ∷ 49 ∷ []) ++ (32 ∷ 32 ∷ 32 ∷ 32 ∷ 50 ∷ []) ++ replicate 65 32 ++ (10 ∷ [])) ++
    ((32 ∷ 32 ∷ 32 ∷ 32 ∷ 50 ∷ []) ++ (32 ∷ 32 ∷ 32 ∷ 32 ∷ 49 ∷ []) ++ (32 ∷ 32 ∷ 32 ∷ 32 ∷ 51 ∷ []) ++ replicate 65 32 ++ (10 ∷ [])) ++
    ((32 ∷ 32 ∷ 32 ∷ 32 ∷ 51 ∷ []) ++ (32 ∷ 32 ∷ 32 ∷ 32 ∷ 52 ∷ []) ++ (32 ∷ 32 ∷ 32 ∷ 32 ∷ 52 ∷ []) ++ replicate 65 32 ++ (10 ∷ []))
unfolding consecutive decimal_in decimal_digits sides right_aligned cell_columns place_columns first_places page_line cell_line page page_count pages map_layer printed_layer flat_map
page_printed = refl
