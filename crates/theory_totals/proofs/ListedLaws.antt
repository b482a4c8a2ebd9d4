-- The numbers that the book of readings lists, in the order of the table.
-- Assumes nothing.
use mathlib.Core.List.{[], ◌∷◌}
use mathlib.Core.Path.{◌≡◌, refl}
use Rattle.refusals.specs.Refusals.{listed_numbers, number}
use Rattle.joiner.specs.Book.{Book}
use Rattle.strain_calls.specs.Calls.{StrainCall}
use Rattle.theory_totals.specs.Book.{ReadingBook, strain_book_declines}

pub strain_book_listed : (B : Book) (R : ReadingBook) (c : StrainCall) → listed_numbers (strain_book_declines B R c) ≡ 3 ∷ 4 ∷ 5 ∷ 6 ∷ 12 ∷ []
unfolding listed_numbers strain_book_declines number
strain_book_listed B R c = refl
