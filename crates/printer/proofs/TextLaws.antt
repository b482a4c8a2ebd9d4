-- The parts of a text: numbers each after a space, and lines.
-- Assumes nothing.
use mathlib.Core.Path.{◌≡◌, refl, sym, ap, ◌∙◌}
use mathlib.Core.List.{List, [], ◌∷◌, ◌++◌, append_assoc, append-nil}
use Prim.Native.Nat.{ℕ, ◌+◌}
use native.Mathlib.Omega.{arith}
use Rattle.lists.specs.Lists.{consecutive}
use Rattle.lists.proofs.Lists.{consecutive_split}
use Rattle.cells.specs.declared.Triple.{Triple}
use Rattle.text.specs.Listing.{line, lines_for}

-- ---- lines

module _ (e : Triple) (m : List ℕ) (j : ℕ) where
  lines_append : (a b : List ℕ) → lines_for e m j (a ++ b) ≡ lines_for e m j a ++ lines_for e m j b
  unfolding lines_for
  lines_append [] b = refl
  lines_append (n ∷ a) b = rw (lines_append a b) (sym (append_assoc (line e m j n) (lines_for e m j a) (lines_for e m j b)))

  line_alone : (n : ℕ) → lines_for e m j (consecutive n 1) ≡ line e m j n
  unfolding lines_for consecutive
  line_alone n = append-nil _

  pub lines_more : (i : ℕ) → lines_for e m j (consecutive 1 (i + 1)) ≡ lines_for e m j (consecutive 1 i) ++ line e m j (i + 1)
  lines_more i =
      let s : 1 + i ≡ i + 1 = omega arith in
      rw (consecutive_split 1 i 1, s) (lines_append (consecutive 1 i) (consecutive (i + 1) 1) ∙ ap (λ (l : List ℕ). lines_for e m j (consecutive 1 i) ++ l) (line_alone (i + 1)))
