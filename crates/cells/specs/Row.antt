-- Rows (document 01, "Numbering one block"): "the set of nonzero numbers that occur exactly once among its upper neighbours,
-- written ascending in six places and filled with zeros".
-- Assumes nothing.
use Rattle.std.specs.Prelude.{ℕ, zero, suc, ◌+◌, min, max, Bool, true, false, cond, not, List, [], ◌∷◌, map, eqb, get_or}
use Rattle.lists.specs.Lists.{keep}
use Rattle.cells.specs.declared.Triple.{Triple}
use Rattle.cells.specs.Grid.{upper_neighbours}

-- How often v occurs.
abbrev pub occurrences : ℕ → List ℕ → ℕ
occurrences v [] = 0
occurrences v (x ∷ xs) = cond (eqb x v) (occurrences v xs + 1) (occurrences v xs)

-- x is not 0 and occurs exactly once.
abbrev pub once : List ℕ → ℕ → Bool
once xs x = cond (eqb x 0) false (eqb (occurrences x xs) 1)

-- x put into an ascending list.
abbrev pub insert_ascending : ℕ → List ℕ → List ℕ
insert_ascending x [] = x ∷ []
insert_ascending x (y ∷ ys) = min x y ∷ insert_ascending (max x y) ys

abbrev pub sort_ascending : List ℕ → List ℕ
sort_ascending [] = []
sort_ascending (x ∷ xs) = insert_ascending x (sort_ascending xs)

-- The first n entries, filled with zeros.
abbrev pub pad_to : ℕ → List ℕ → List ℕ
pad_to zero xs = []
pad_to (suc n) [] = 0 ∷ pad_to n []
pad_to (suc n) (x ∷ xs) = x ∷ pad_to n xs

-- The row of a list of numbers.
unfoldable pub row_of : List ℕ → List ℕ
row_of xs = pad_to 6 (sort_ascending (keep (once xs) xs))

-- The numbers of some cells over the map m.
abbrev pub numbers_at : List ℕ → List ℕ → List ℕ
numbers_at m ps = map (λ p. get_or m p 0) ps

-- The row of a cell over the map m. A voxel has no upper neighbours, so its row is six zeros.
unfoldable pub row : Triple → List ℕ → ℕ → List ℕ
row e m p = row_of (numbers_at m (upper_neighbours e p))

-- A row has an entry.
unfoldable pub occupied : List ℕ → Bool
occupied r = not (eqb (get_or r 0 0) 0)

-- "A cell of order 0 to 2 is active exactly when its row has an entry."
unfoldable pub active : Triple → List ℕ → ℕ → Bool
active e m p = occupied (row e m p)

-- Two rows are equal.
abbrev pub same_row : List ℕ → List ℕ → Bool
same_row [] [] = true
same_row [] (y ∷ ys) = false
same_row (x ∷ xs) [] = false
same_row (x ∷ xs) (y ∷ ys) = cond (eqb x y) (same_row xs ys) false
