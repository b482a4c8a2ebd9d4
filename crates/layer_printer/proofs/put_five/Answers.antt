-- An array of five is its entries.
use Rattle.std.proofs.Common.{◌≡◌, ◌∙◌, ◌∷◌, [], ℕ, List, length, get_or, ap, refl, arith}
use Rattle.lists.specs.Lists.{laid}
use Rattle.lists.proofs.Laid.{laid_five}
use Rattle.layer_printer.proofs.put_five.Goals as goal

five_of : (l : List ℕ) → length l ≡ 5 → get_or l 0 0 ∷ get_or l 1 0 ∷ get_or l 2 0 ∷ get_or l 3 0 ∷ get_or l 4 0 ∷ [] ≡ l
five_of [] h = absurd (omega arith)
five_of (a ∷ []) h = absurd (omega arith)
five_of (a ∷ b ∷ []) h = absurd (omega arith)
five_of (a ∷ b ∷ c ∷ []) h = absurd (omega arith)
five_of (a ∷ b ∷ c ∷ d ∷ []) h = absurd (omega arith)
five_of (a ∷ b ∷ c ∷ d ∷ e ∷ []) h = refl
five_of (a ∷ b ∷ c ∷ d ∷ e ∷ f ∷ l) h = absurd (omega arith)

pub returns : goal.returns
returns c = laid_five _ _ _ _ _ _ _ c.requires ∙ ap (λ (l : List ℕ). laid c.args.at l c.args.tray.now) (five_of c.args.five (omega arith))
