-- The block record (document 01, "Block record").
-- Assumes nothing.
use Rattle.std.specs.Prelude.{Bool, cond, not, ◌||◌, List, [], ◌∷◌, ◌++◌, map, ℕ, ◌+◌, ◌-◌, ◌*◌, ◌/◌, ◌%◌, ◌^◌, eqb, length, get_or, take, drop}
use Rattle.lists.specs.Lists.{consecutive, tabulate, some_of}
use Rattle.closure.specs.Numbered.{count_below}
use Rattle.cells.specs.Box.{triple}
use Rattle.cells.specs.declared.Triple.{Triple}
use Rattle.cells.specs.Grid.{cells}
use Rattle.records.specs.Fields.{bytes, field_at, packed}

-- ---- written

-- "Three 16-bit voxel extents, then three 16-bit voxel origins in the volume (x, y, z)."
unfoldable pub head_bytes : Triple → Triple → List ℕ
head_bytes e o = bytes 2 e.x ++ bytes 2 e.y ++ bytes 2 e.z ++ bytes 2 o.x ++ bytes 2 o.y ++ bytes 2 o.z

-- "A bit stands exactly when the cell's number is not 0."
unfoldable pub bit : ℕ → ℕ
bit v = cond (eqb v 0) 0 1

-- "One bit per cell in cell order, lowest bit first in each byte, spare bits 0": byte i has cells 8i to 8i + 7.
unfoldable pub map_byte : List ℕ → ℕ → ℕ
map_byte m i = packed (map bit (take 8 (drop (8 * i) m)))

unfoldable pub bitmap_length : ℕ → ℕ
bitmap_length n = (n + 7) / 8

unfoldable pub bitmap : List ℕ → List ℕ
bitmap m = tabulate (bitmap_length (length m)) (map_byte m)

-- "Then come only the numbers whose bit stands, 4 bytes each."
unfoldable pub listed : List ℕ → List ℕ
listed [] = []
listed (v ∷ vs) = cond (eqb v 0) (listed vs) (bytes 4 v ++ listed vs)

-- The record of a map.
unfoldable pub encode_record : Triple → Triple → List ℕ → List ℕ
encode_record e o m = head_bytes e o ++ bitmap m ++ listed m

-- ---- read

unfoldable pub extents_of : List ℕ → Triple
extents_of r = triple (field_at r 0 2) (field_at r 2 2) (field_at r 4 2)

unfoldable pub origin_of : List ℕ → Triple
origin_of r = triple (field_at r 6 2) (field_at r 8 2) (field_at r 10 2)

-- The bit of cell c.
unfoldable pub bit_at : List ℕ → ℕ → ℕ
bit_at r c = get_or r (12 + c / 8) 0 / 2 ^ (c % 8) % 2

-- How many bits stand before cell c.
unfoldable pub bits_before : List ℕ → ℕ → ℕ
bits_before r c = count_below (λ d. eqb (bit_at r d) 1) c

-- The number of cell c in a record of n cells.
unfoldable pub number_of : ℕ → List ℕ → ℕ → ℕ
number_of n r c = cond (eqb (bit_at r c) 1) (field_at r (12 + bitmap_length n + 4 * bits_before r c) 4) 0

-- The map of a record of n cells.
unfoldable pub decode_record : ℕ → List ℕ → List ℕ
decode_record n r = tabulate n (number_of n r)

-- ---- the cases of the refusals

-- "The length is 12 + ceil(cells/8) + 4 × (standing bits)."
unfoldable pub length_of : ℕ → List ℕ → ℕ
length_of n r = 12 + bitmap_length n + 4 * bits_before r n

-- Refusal 11, with a whole head: "wrong length, spare bit set, .. a listed number 0". "A record's voxel bit may be clear" (document 02, item 4).
unfoldable pub damaged : Triple → List ℕ → Bool
damaged e r =
    not (eqb (length r) (length_of (cells e) r)) ||
    (some_of (λ c. eqb (bit_at r c) 1) (consecutive (cells e) (8 * bitmap_length (cells e) - cells e)) ||
    some_of (λ k. eqb (field_at r (12 + bitmap_length (cells e) + 4 * k) 4) 0) (consecutive 0 (bits_before r (cells e))))
