-- Lists of one length, one after the other: f 0, f 1, .. as `flat_map f (consecutive 0 n)`.
-- Assumes nothing.
use mathlib.Core.Path.{◌≡◌, refl, sym, ap, ◌∙◌}
use mathlib.Core.List.{List, [], ◌++◌, append-nil, flat_map}
use Prim.Native.Nat.{ℕ, zero, suc, ◌+◌, ◌*◌, ◌≤◌, ◌<◌}
use native.Mathlib.Omega.{arith}
use lib.Dec.{eqb}
use lib.ListN.{length, get_or, length-append, get_or-append}
use lib.Seq.{get_or-append-add}
use borrow.Author.Tests.{eqb-true, eqb-false}
use Rattle.lists.specs.Lists.{consecutive, laid}
use Rattle.lists.proofs.Cases.{by_test}
use Rattle.lists.proofs.Lists.{consecutive_split}
use Rattle.lists.proofs.Overlay.{row_place}
use Rattle.lists.proofs.Laid.{laid_none, laid_next}
use Rattle.lists.proofs.Flat.{flat_append}

module _ (f : ℕ → List ℕ) where
  flat_one : (n : ℕ) → flat_map f (consecutive n 1) ≡ f n
  unfolding flat_map consecutive
  flat_one n = append-nil (f n)

  no_pieces : flat_map f (consecutive 0 0) ≡ []
  unfolding flat_map consecutive
  no_pieces = refl

  -- one more
  pub pieces_next : (n : ℕ) → flat_map f (consecutive 0 (n + 1)) ≡ flat_map f (consecutive 0 n) ++ f n
  pieces_next n =
      let z : 0 + n ≡ n = omega arith in
      ap (flat_map f) (consecutive_split 0 n 1) ∙ flat_append f (consecutive 0 n) (consecutive (0 + n) 1) ∙ rw (z, flat_one n)

module _ (f : ℕ → List ℕ) (w : ℕ) (long : (k : ℕ) → length (f k) ≡ w) where
  pub length-pieces : (n : ℕ) → length (flat_map f (consecutive 0 n)) ≡ w * n
  length-pieces zero = ap length (no_pieces f) ∙ omega arith
  length-pieces (suc n) =
      let s : suc n ≡ n + 1 = omega arith in
      rw s (ap length (pieces_next f n) ∙ length-append (flat_map f (consecutive 0 n)) (f n) ∙ rw (length-pieces n, long n) (omega arith))

  -- place i of piece k
  pub pieces_at : (n k i : ℕ) → k < n → i < w → get_or (flat_map f (consecutive 0 n)) (w * k + i) 0 ≡ get_or (f k) i 0
  pieces_at zero k i h l = absurd (omega arith)
  pieces_at (suc n) k i h l =
      let s : suc n ≡ n + 1 = omega arith in
      let before = flat_map f (consecutive 0 n) in
      rw (s, pieces_next f n)
      (by_test (eqb k n)
      (λ t.
      let e : k ≡ n = eqb-true k n t in
      rw (e, ← length-pieces n) (get_or-append-add before (f n) i 0))
      (λ t.
      let d : k ≡ n → ⊥ = eqb-false k n t in
      let in-before : w * k + i < w * n = row_place w k n i (omega arith) l in
      get_or-append before (f n) 0 (w * k + i) (omega (arith, length-pieces n)) ∙ pieces_at n k i (omega arith) l))

  -- laid over a list: none yet, and one more
  pub pieces_none : (at : ℕ) (t : List ℕ) → at ≤ length t → t ≡ laid at (flat_map f (consecutive 0 0)) t
  pieces_none at t h = rw (no_pieces f) (laid_none at t h)

  pub pieces_laid : (at n : ℕ) (t u v : List ℕ) → at + w * (n + 1) ≤ length t → u ≡ laid at (flat_map f (consecutive 0 n)) t → v ≡ laid (at + w * n) (f n) u
      → v ≡ laid at (flat_map f (consecutive 0 (n + 1))) t
  pieces_laid at n t u v h p q =
      let before = flat_map f (consecutive 0 n) in
      q ∙ ap (laid (at + w * n) (f n)) p
      ∙ laid_next at (at + w * n) before (f n) t (omega (arith, length-pieces n)) (rw (long n) (omega arith))
      ∙ ap (λ (l : List ℕ). laid at l t) (sym (pieces_next f n))
