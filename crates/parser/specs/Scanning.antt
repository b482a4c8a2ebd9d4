-- What the scanner keeps of the bytes that it has read, byte by byte.
-- Assumes nothing.
use Rattle.std.specs.Prelude.{Option, Some, None, Bool, true, false, cond, not, ◌&&◌, List, [], ◌∷◌, ℕ, ◌+◌, ◌-◌, ◌*◌, ◌^◌, eqb, ltb, set}
use Rattle.decimals.specs.Decimals.{digit}
use Rattle.text.specs.Words.{gap}
use Rattle.parser.specs.declared.Scanned.{Scanned}
use Rattle.parser.specs.declared.Scanner.{Scanner}

-- What has been read, but for the codes: how many words count, whether one has ended that does not, the word that has not ended, by its
-- size, 10 at most, and by what it spells, and the extents.
pub record Seen : Type 0 where
  pub count : ℕ
  pub broken : Bool
  pub size : ℕ
  pub value : ℕ
  pub nx : ℕ
  pub ny : ℕ
  pub nz : ℕ

-- What has been read, and the tray of codes.
pub record State : Type 0 where
  pub seen : Seen
  pub codes : List ℕ

abbrev pub state : Seen → List ℕ → State
state s d = record { seen = s; codes = d }

-- Its fields, in order.
abbrev pub scanned : ℕ → Bool → ℕ → ℕ → ℕ → ℕ → ℕ → Seen
scanned k b n v x y z = record { count = k; broken = b; size = n; value = v; nx = x; ny = y; nz = z }

-- What a word spells: 2^32, above every number, where it is no number.
abbrev pub told_value : Option ℕ → ℕ
told_value None = 2 ^ 32
told_value (Some v) = v

-- What has been read, as the code's record tells it.
abbrev pub seen : Scanned → Seen
seen s = scanned s.count s.broken s.size (told_value s.value) s.extents.x s.extents.y s.extents.z

-- What a scanner has read, and its tray.
abbrev pub state_of : Scanner → State
state_of s = state (seen s.scanned) s.codes.now

-- Before the first byte.
abbrev pub begun : Seen
begun = scanned 0 false 0 0 0 0 0

-- 2^32 stands for every number that is not below it, and for what is no number.
unfoldable pub capped : ℕ → ℕ
capped x = cond (ltb x (2 ^ 32)) x (2 ^ 32)

-- What a word of n bytes that spells v spells with one byte more: a number has digits only, 10 at most, and is below 2^32.
unfoldable pub spells : ℕ → ℕ → ℕ → ℕ
spells n v b = cond (digit b && (ltb n 10 && ltb v (2 ^ 32))) (capped (10 * v + (b - 48))) (2 ^ 32)

-- The size of a word with one byte more, 10 at most.
unfoldable pub longer : ℕ → ℕ
longer n = cond (ltb n 10) (n + 1) 10

-- The word that has not ended takes a byte.
abbrev pub grown : Seen → ℕ → Seen
grown s b =
    scanned s.count s.broken (longer s.size) (spells s.size s.value b) s.nx s.ny s.nz

-- A word that ends counts where all before it did, it is a number, and it is no more than the 512th code after three extents.
unfoldable pub counts : Seen → Bool
counts s = not s.broken && (ltb s.value (2 ^ 32) && ltb s.count 515)

-- Extent i, where v counts after k others: the first three are the extents.
unfoldable pub extent : ℕ → ℕ → ℕ → ℕ → ℕ
extent i k v old = cond (eqb k i) v old

-- The numbers that count are one more.
abbrev pub kept_at : Seen → ℕ → Seen
kept_at s v =
    scanned (s.count + 1) s.broken s.size s.value (extent 0 s.count v s.nx) (extent 1 s.count v s.ny) (extent 2 s.count v s.nz)

-- It counts.
abbrev pub counted : Seen → ℕ → Seen
counted s v =
    scanned (s.count + 1) false 0 0 (extent 0 s.count v s.nx) (extent 1 s.count v s.ny) (extent 2 s.count v s.nz)

-- The codes come after the extents. One that has no place in the tray is not kept.
unfoldable pub stored : ℕ → ℕ → List ℕ → List ℕ
stored k v d = cond (ltb k 3) d (set d (k - 3) v)

-- It does not count, and none after it does.
abbrev pub lost : Seen → Seen
lost s = scanned s.count true 0 0 s.nx s.ny s.nz

-- The word, if there is one, ends.
unfoldable pub closed : Seen → List ℕ → State
closed s d =
    cond (eqb s.size 0) (state s d)
    (cond (counts s) (state (counted s s.value) (stored s.count s.value d)) (state (lost s) d))

-- One byte.
unfoldable pub step : Seen → List ℕ → ℕ → State
step s d b = cond (gap b) (closed s d) (state (grown s b) d)

-- All bytes of a chunk.
unfoldable pub after : State → List ℕ → State
after st [] = st
after st (b ∷ bs) = after (step st.seen st.codes b) bs
