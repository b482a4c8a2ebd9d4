-- Readings, and what a list of them adds to a sum (document 02, item 1).
-- Assumes nothing.
use Rattle.std.specs.Prelude.{Bool, true, List, [], ◌∷◌, ℕ, eqb, length, ℤ, pos, ◌+ℤ◌, Float}
use Rattle.std.specs.Float.{binary64}
use Rattle.std.specs.Float.Ieee.{add}
use Rattle.lists.specs.Lists.{keep}
use Rattle.strains.specs.Units.{is_units, whole_units}
use Rattle.strains.specs.declared.Reading.{Reading}

-- "A strain is a 64-bit float that is a whole multiple of 1/1,024, at most 2,048 either way", and so is a clipped value; the value of a missing one is ignored.
unfoldable pub is_good : Reading → Bool
is_good (Reading.Strain x) = is_units 2097152 x
is_good (Reading.Clipped x) = is_units 2097152 x
is_good Reading.Missing = true

-- The sum after one more reading: "clipped values are counted and not summed".
unfoldable pub sum_with : Float → Reading → Float
sum_with s (Reading.Strain x) = add binary64 s x
sum_with s (Reading.Clipped x) = s
sum_with s Reading.Missing = s

-- The sum after a list of readings, in this order.
unfoldable pub summed : Float → List Reading → Float
summed s [] = s
summed s (r ∷ rs) = summed (sum_with s r) rs

-- How many 1,024ths a reading adds.
unfoldable pub units_in : Reading → ℤ
units_in (Reading.Strain x) = whole_units x
units_in (Reading.Clipped x) = pos 0
units_in Reading.Missing = pos 0

-- "The sum over whole 1,024ths" of a list of readings.
unfoldable pub units_sum : List Reading → ℤ
units_sum [] = pos 0
units_sum (r ∷ rs) = units_in r +ℤ units_sum rs

-- Which of the three counts a reading is for: 0 strains, 1 clipped, 2 missing.
unfoldable pub kind_of : Reading → ℕ
kind_of (Reading.Strain x) = 0
kind_of (Reading.Clipped x) = 1
kind_of Reading.Missing = 2

-- How many readings of a list are of kind j: "0 strain, 1 clipped, 2 missing".
unfoldable pub of_kind : ℕ → List Reading → ℕ
of_kind j rs = length (keep (λ r. eqb (kind_of r) j) rs)

-- One list is the other in another order.
pub data Reordered {A : Type 0} : List A → List A → Type 0 where
  none : Reordered [] []
  both : {x : A} {xs ys : List A} → Reordered xs ys → Reordered (x ∷ xs) (x ∷ ys)
  swap : {x y : A} {xs : List A} → Reordered (x ∷ y ∷ xs) (y ∷ x ∷ xs)
  then : {xs ys zs : List A} → Reordered xs ys → Reordered ys zs → Reordered xs zs
