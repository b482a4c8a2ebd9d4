-- What three places hold after `store_counts`, and its ways.
-- Assumes nothing.
use mathlib.Core.Path.{◌≡◌, refl}
use mathlib.Core.Logic.{◌≢◌}
use mathlib.Core.List.{List, [], ◌∷◌}
use Prim.Native.Nat.{ℕ}
use lib.ListN.{set}
use borrow.Author.Tests.{eq-eqb, ne_eqb}
use Rattle.counts.specs.Counts.{stored_counts}

module _ (n f k p : ℕ) (c : List ℕ) where
  pub counts_stored : n ≡ 0 → set (set (set c 0 f) 1 k) 2 p ≡ stored_counts n f k p c
  unfolding stored_counts
  counts_stored z = rw (eq-eqb n 0 z)

  pub counts_kept : n ≢ 0 → c ≡ stored_counts n f k p c
  unfolding stored_counts
  counts_kept d = rw (ne_eqb n 0 d)

-- Three places after an accepted call, whatever they held: the faces, the curves, the points.
pub stored_three : (f k p x y z : ℕ) → stored_counts 0 f k p (x ∷ y ∷ z ∷ []) ≡ f ∷ k ∷ p ∷ []
unfolding stored_counts
stored_three f k p x y z = refl
