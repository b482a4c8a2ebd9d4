-- The words of a text and the numbers among them: numbers "of 1 to 10 decimal digits and below 2^32,
-- parted by one or more spaces or line ends, which may also stand first and last". A text is its bytes.
-- Assumes nothing.
use Rattle.std.specs.Prelude.{Bool, true, cond, ◌&&◌, ◌||◌, List, [], ◌∷◌, ◌++◌, ℕ, ◌+◌, ◌-◌, ◌*◌, ◌^◌, eqb, leb, ltb, length}
use Rattle.decimals.specs.Decimals.{digit}

-- A space or a line end: byte 32 or byte 10.
unfoldable pub gap : ℕ → Bool
gap b = eqb b 32 || eqb b 10

-- A word that ends before the words ws; none where no byte of it has come.
unfoldable pub ended : List ℕ → List (List ℕ) → List (List ℕ)
ended [] ws = ws
ended (b ∷ bs) ws = (b ∷ bs) ∷ ws

-- The words of a text of which the bytes w of a word have come.
unfoldable pub words_from : List ℕ → List ℕ → List (List ℕ)
words_from w [] = ended w []
words_from w (b ∷ bs) = cond (gap b) (ended w (words_from [] bs)) (words_from (w ++ (b ∷ [])) bs)

-- What stands between the spaces and line ends.
unfoldable pub words_of : List ℕ → List (List ℕ)
words_of text = words_from [] text

-- Every byte is a digit.
unfoldable pub all_digits : List ℕ → Bool
all_digits [] = true
all_digits (b ∷ bs) = digit b && all_digits bs

-- The number that digits spell, after others that spell n.
unfoldable pub value_from : ℕ → List ℕ → ℕ
value_from n [] = n
value_from n (b ∷ bs) = value_from (10 * n + (b - 48)) bs

unfoldable pub spelled : List ℕ → ℕ
spelled w = value_from 0 w

-- A word is a number: "of 1 to 10 decimal digits and below 2^32".
unfoldable pub is_number : List ℕ → Bool
is_number w = all_digits w && (leb 1 (length w) && (leb (length w) 10 && ltb (spelled w) (2 ^ 32)))
