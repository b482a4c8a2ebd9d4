-- Numbers and rows read through links: a reading keeps every root, so what is read after it is what was read before it.
-- Assumes nothing.
use Rattle.std.proofs.Common.{Option, Some, None}
use mathlib.Core.List.{List, [], ◌∷◌}
use mathlib.Core.Path.{◌≡◌, ap, ◌∙◌}
use Prim.Native.Nat.{ℕ, suc, ◌+◌, ◌-◌, ◌≤◌}
use native.Mathlib.Omega.{arith}
use native.Mathlib.Numerals.{add-one}
use lib.ListN.{length, get_or}
use borrow.Author.Tests.{ne_eqb}
use Rattle.union_find.specs.Links.{root, Rooted, Found}
use Rattle.union_find.proofs.LinkLaws.{root_low, rooted_refl, rooted_then}
use Rattle.cells.specs.Row.{row_of, pad_to}
use Rattle.lines.specs.Lines.{around}
use Rattle.pass_cross.specs.CrossEdges.{place_of, read_through, numbers_through, row_through}
use Rattle.pass_cross.specs.Inner.{Read, strides_of, active_row, rows_along, Readable, Near}

-- Links that keep their roots have the same roots, as functions.
pub kept_roots : {a b : List ℕ} → Rooted a b (root a) → root b ≡ root a
kept_roots R i x = R.roots x i

pub kept_then : {a b c : List ℕ} → Rooted a b (root a) → Rooted b c (root b) → Rooted a c (root a)
kept_then R S = rooted_then R S R.roots

-- ---- one number

pub read_none : (a : List ℕ) (from n : ℕ) → n ≡ 0 → Read a a 0 (read_through (root a) from n)
unfolding read_through
read_none a from n e = record { is = rw e; kept = rooted_refl a }

pub read_some : (a b : List ℕ) (from n r : ℕ) → ¬ (n ≡ 0) → Found a b (from + (n - 1)) r → Read a b (r + 1) (read_through (root a) from n)
unfolding read_through place_of
read_some a b from n r h F = record { is = rw (ne_eqb n 0 h, add-one) (ap suc F.is); kept = F.kept }

-- A root + 1 is no more than the table's length.
pub root_fits : (a b : List ℕ) (from n r : ℕ) → ¬ (n ≡ 0) → Found a b (from + (n - 1)) r → from + n ≤ length a → r + 1 ≤ length a
root_fits a b from n r h F l = omega (arith, F.is, root_low a (from + (n - 1)))

-- ---- what is readable stays so, since the tables keep their lengths

module _ (m a : List ℕ) (p s from : ℕ) (ns : List ℕ) where
  pub down_in : Readable m p s from (length a) → ns ≡ get_or m (p - s) 0 ∷ get_or m (p + s) 0 ∷ [] → from + get_or ns 0 0 ≤ length a
  down_in R e = rw e R.down

  pub up_in : (b : List ℕ) (u v : ℕ) → Readable m p s from (length a) → ns ≡ get_or m (p - s) 0 ∷ get_or m (p + s) 0 ∷ [] → Read a b u v → from + get_or ns 1 0 ≤ length b
  up_in b u v R e K = rw (e, K.kept.size) R.up

pub second_kept : (m a b : List ℕ) (p s : ℕ) (o : Option ℕ) (t from : ℕ) (u v : List ℕ) → Near m p s o from (length a) → o ≡ Some t → Read a b u v
    → Readable m p t from (length b)
second_kept m a b p s o t from u v N e K = rw K.kept.size (N.second t e)

pub near_kept : (m a b : List ℕ) (p s : ℕ) (o : Option ℕ) (from : ℕ) (u v : List ℕ) → Near m p s o from (length a) → Read a b u v
    → Near m p s o from (length b)
near_kept m a b p s o from u v N K = rw K.kept.size N

-- ---- two numbers, and a row

pub read_two : (m a b c : List ℕ) (from p s : ℕ) (ns : List ℕ) (u v : ℕ) → ns ≡ get_or m (p - s) 0 ∷ get_or m (p + s) 0 ∷ []
    → Read a b u (read_through (root a) from (get_or ns 0 0)) → Read b c v (read_through (root b) from (get_or ns 1 0))
    → Read a c (u ∷ v ∷ []) (numbers_through m (root a) from (around p (s ∷ [])))
unfolding numbers_through around
read_two m a b c from p s ns u v e R S = record { is = rw (R.is, S.is, e, kept_roots R.kept); kept = kept_then R.kept S.kept }

-- a cell that is not active, a face cell, a curve cell
module _ (m a b c : List ℕ) (from p s : ℕ) (o : Option ℕ) where
  pub row_idle : get_or m p 0 ≡ 0 → Read a a (pad_to 6 []) (active_row m (root a) from p (around p (strides_of s o)))
  unfolding active_row
  row_idle e = record { is = rw e; kept = rooted_refl a }

  module _ (r us : List ℕ) where
    pub row_face : ¬ (get_or m p 0 ≡ 0) → Read a b us (numbers_through m (root a) from (around p (s ∷ []))) → o ≡ None
        → r ≡ row_of (get_or us 0 0 ∷ get_or us 1 0 ∷ []) → Read a b r (active_row m (root a) from p (around p (strides_of s o)))
    unfolding active_row strides_of row_through numbers_through around
    row_face h R e q = record { is = q ∙ rw (ne_eqb (get_or m p 0) 0 h, e, R.is); kept = R.kept }

    pub row_curve : (t : ℕ) (vs : List ℕ) → ¬ (get_or m p 0 ≡ 0) → Read a b us (numbers_through m (root a) from (around p (s ∷ []))) → o ≡ Some t
        → Read b c vs (numbers_through m (root b) from (around p (t ∷ []))) → r ≡ row_of (get_or us 0 0 ∷ get_or us 1 0 ∷ get_or vs 0 0 ∷ get_or vs 1 0 ∷ [])
        → Read a c r (active_row m (root a) from p (around p (strides_of s o)))
    unfolding active_row strides_of row_through numbers_through around
    row_curve t vs h R e S q = record { is = q ∙ rw (ne_eqb (get_or m p 0) 0 h, e, R.is, S.is, kept_roots R.kept); kept = kept_then R.kept S.kept }

-- ---- the rows of two cells

pub rows_two : (m a b c : List ℕ) (from t s : ℕ) (ss u v : List ℕ) → Read a b u (active_row m (root a) from (t - s) (around (t - s) ss))
    → Read b c v (active_row m (root b) from (t + s) (around (t + s) ss)) → Read a c (u ∷ v ∷ []) (rows_along m (root a) from t s ss)
unfolding rows_along
rows_two m a b c from t s ss u v R S = record { is = rw (R.is, S.is, kept_roots R.kept); kept = kept_then R.kept S.kept }
