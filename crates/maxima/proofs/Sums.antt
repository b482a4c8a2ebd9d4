-- Sums of a function's values over the entries of a list. Where the value at 0 is 0 and every other number stands once, the sum over a row is that over its numbers.
-- Assumes nothing.
use mathlib.Core.Path.{◌≡◌, refl, sym, ap, ◌∙◌}
use mathlib.Core.Bool.{Bool, true, false, true≢false}
use mathlib.Core.Logic.{◌≢◌}
use mathlib.Core.List.{List, [], ◌∷◌, ◌++◌, map, Memᴰ}
use Prim.Native.Nat.{ℕ, zero, suc, ◌+◌, ◌*◌, ◌≤◌, ◌<◌}
use native.Mathlib.Omega.{arith}
use lib.Dec.{eqb}
use lib.ListN.{length}
use borrow.Author.Tests.{eqb-true, eqb-false, eq-eqb, ne_eqb}
use Rattle.lists.specs.Lists.{keep}
use Rattle.lists.proofs.Cases.{by_test}
use Rattle.lists.proofs.Lists.{keep_in, length-keep}
use Rattle.cells.specs.Row.{occurrences, once, insert_ascending, sort_ascending, pad_to, row_of, occupied}
use Rattle.cells.proofs.RowLaws.{length-sort, entry_in, occupied_kept}
use Rattle.cells.proofs.RowFacts.{min_max}

-- The sum of the values of f.
abbrev pub sum_over : (ℕ → ℕ) → List ℕ → ℕ
sum_over f [] = 0
sum_over f (x ∷ l) = f x + sum_over f l

pub sum_both : (f : ℕ → ℕ) (l k : List ℕ) → sum_over f (l ++ k) ≡ sum_over f l + sum_over f k
sum_both f [] k = omega arith
sum_both f (x ∷ l) k = omega (arith, sum_both f l k)

pub sum_told : (f g : ℕ → ℕ) (l : List ℕ) → sum_over f (map g l) ≡ sum_over (λ x. f (g x)) l
sum_told f g [] = refl
sum_told f g (x ∷ l) = ap (λ (n : ℕ). f (g x) + n) (sum_told f g l)

pub sum_constant : (z : ℕ) (l : List ℕ) → sum_over (λ x. z) l ≡ length l * z
sum_constant z [] = omega arith
sum_constant z (x ∷ l) = omega (arith, sum_constant z l)

-- ---- the row of a list

sum_inserted : (f : ℕ → ℕ) (x : ℕ) (l : List ℕ) → sum_over f (insert_ascending x l) ≡ f x + sum_over f l
sum_inserted f x [] = refl
sum_inserted f x (y ∷ l) =
    min_max (λ a b. f a + sum_over f (insert_ascending b l) ≡ f x + (f y + sum_over f l)) x y
    (λ _. omega (arith, sum_inserted f y l))
    (λ _. omega (arith, sum_inserted f x l))

sum_sorted : (f : ℕ → ℕ) (l : List ℕ) → sum_over f (sort_ascending l) ≡ sum_over f l
sum_sorted f [] = refl
sum_sorted f (x ∷ l) = sum_inserted f x (sort_ascending l) ∙ ap (λ (n : ℕ). f x + n) (sum_sorted f l)

sum_padded : (f : ℕ → ℕ) → f 0 ≡ 0 → (n : ℕ) (l : List ℕ) → length l ≤ n → sum_over f (pad_to n l) ≡ sum_over f l
sum_padded f z zero [] h = refl
sum_padded f z zero (x ∷ l) h = absurd (omega arith)
sum_padded f z (suc n) [] h = omega (arith, sum_padded f z n [] (omega arith))
sum_padded f z (suc n) (x ∷ l) h = omega (arith, sum_padded f z n l (omega arith))

-- what is not kept adds nothing
sum_kept : (f : ℕ → ℕ) (t : ℕ → Bool) (l : List ℕ) → ((x : ℕ) → Memᴰ x l → t x ≡ false → f x ≡ 0) → sum_over f (keep t l) ≡ sum_over f l
sum_kept f t [] h = refl
sum_kept f t (x ∷ l) h =
    let rest = sum_kept f t l (λ y m. h y (Memᴰ.tail m)) in
    by_test (t x)
    (λ u. rw u (omega (arith, rest)))
    (λ u. rw u (omega (arith, h x (Memᴰ.head refl) u, rest)))

-- Every number but 0 stands once.
abbrev pub StandsOnce : List ℕ → Type 0
StandsOnce xs = (x : ℕ) → Memᴰ x xs → x ≢ 0 → occurrences x xs ≡ 1

pub sum_row : (f : ℕ → ℕ) → f 0 ≡ 0 → (xs : List ℕ) → length xs ≤ 6 → StandsOnce xs → sum_over f (row_of xs) ≡ sum_over f xs
unfolding row_of
sum_row f z xs h s =
    sum_padded f z 6 (sort_ascending (keep (once xs) xs)) (omega (arith, length-sort (keep (once xs) xs), length-keep (once xs) xs))
    ∙ sum_sorted f (keep (once xs) xs)
    ∙ sum_kept f (once xs) xs dropped
  where
    dropped : (x : ℕ) → Memᴰ x xs → once xs x ≡ false → f x ≡ 0
    dropped x m t =
        by_test (eqb x 0)
        (λ u. ap f (eqb-true x 0 u) ∙ z)
        (λ u. absurd (true≢false (sym (eq-eqb (occurrences x xs) 1 (s x m (eqb-false x 0 u))) ∙ (rw u at t))))

-- a number that is not 0 gives such a row an entry
pub row_occupied : (xs : List ℕ) → StandsOnce xs → {x : ℕ} → Memᴰ x xs → 0 < x → occupied (row_of xs) ≡ true
row_occupied xs s {x} m h =
    let d : x ≢ 0 = omega arith in
    let one : once xs x ≡ true = rw (ne_eqb x 0 d) (eq-eqb (occurrences x xs) 1 (s x m d)) in
    occupied_kept xs ∙ entry_in (keep (once xs) xs) (keep_in (once xs) xs m one)
