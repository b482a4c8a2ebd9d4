-- What the listing program is asked: "three extents (each at most 8) and the codes, exactly as many as
-- voxels", and when the text is refused.
-- Assumes nothing.
use Rattle.std.specs.Prelude.{Bool, true, not, ◌&&◌, List, [], ◌∷◌, map, ℕ, eqb, leb, length, get_or, drop}
use Rattle.refusals.specs.declared.Refusal.{Refusal}
use Rattle.refusals.specs.Refusals.{Case, ◌if◌, given_refusal}
use Rattle.cells.specs.Box.{triple, volume}
use Rattle.cells.specs.declared.Triple.{Triple}
use Rattle.cells.specs.Extents.{off_size}
use Rattle.text.specs.Words.{words_of, is_number, spelled}

-- Every word is a number.
unfoldable pub numbers : List (List ℕ) → Bool
numbers [] = true
numbers (w ∷ ws) = is_number w && numbers ws

-- Word i, empty where there is none; an empty word is no number.
unfoldable pub word : List (List ℕ) → ℕ → List ℕ
word ws i = get_or ws i []

-- The extents can be read: the first three words are numbers.
unfoldable pub readable : List (List ℕ) → Bool
readable ws = is_number (word ws 0) && (is_number (word ws 1) && is_number (word ws 2))

-- The extents that the words tell, and the codes.
unfoldable pub extents_in : List (List ℕ) → Triple
extents_in ws = triple (spelled (word ws 0)) (spelled (word ws 1)) (spelled (word ws 2))

unfoldable pub codes_in : List (List ℕ) → List ℕ
codes_in ws = map spelled (drop 3 ws)

-- The text has its form: numbers only, and "exactly as many" codes "as voxels".
unfoldable pub formed : List (List ℕ) → Bool
formed ws = numbers ws && (leb 3 (length ws) && eqb (length (drop 3 ws)) (volume (extents_in ws)))

-- The cases of a text: 1 where the extents can be read and are off size, 11 for any other text that has not its form. A code 0 is a code: it is outside.
unfoldable pub declines_text : List (List ℕ) → List Case
declines_text ws = Refusal.OffSize if (readable ws && off_size 8 (extents_in ws)) ∷ Refusal.BadRecord if not (formed ws) ∷ []

-- The refusal of a text, 0 for none.
unfoldable pub text_refusal : List ℕ → ℕ
text_refusal text = given_refusal (declines_text (words_of text))

-- What a text asks for: extents and codes.
unfoldable pub asked_extents : List ℕ → Triple
asked_extents text = extents_in (words_of text)

unfoldable pub asked_codes : List ℕ → List ℕ
asked_codes text = codes_in (words_of text)
