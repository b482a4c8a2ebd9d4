-- Numbers as bytes and as bits, the lowest first ("all fields are little-endian", "lowest bit first in each byte").
-- Assumes nothing.
use Rattle.std.specs.Prelude.{List, [], ◌∷◌, ℕ, zero, suc, ◌+◌, ◌*◌, ◌/◌, ◌%◌, take, drop}

-- x in n bytes.
unfoldable pub bytes : ℕ → ℕ → List ℕ
bytes zero x = []
bytes (suc n) x = x % 256 ∷ bytes n (x / 256)

-- The number that bytes stand for.
unfoldable pub value : List ℕ → ℕ
value [] = 0
value (b ∷ bs) = b + 256 * value bs

-- The field of n bytes at place p.
unfoldable pub field_at : List ℕ → ℕ → ℕ → ℕ
field_at r p n = value (take n (drop p r))

-- Bits as one number.
unfoldable pub packed : List ℕ → ℕ
packed [] = 0
packed (b ∷ bs) = b + 2 * packed bs
