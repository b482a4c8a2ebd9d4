-- The numbers that the listing program's text can be refused with, in the order of the table.
-- Assumes nothing.
use mathlib.Core.Path.{◌≡◌, refl}
use mathlib.Core.List.{List, [], ◌∷◌}
use Prim.Native.Nat.{ℕ}
use Rattle.refusals.specs.Refusals.{listed_numbers, number}
use Rattle.text.specs.Request.{declines_text}

pub text_listed : (ws : List (List ℕ)) → listed_numbers (declines_text ws) ≡ 1 ∷ 11 ∷ []
unfolding listed_numbers declines_text number
text_listed ws = refl
