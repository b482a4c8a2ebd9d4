-- Rows under a renaming of the numbers: one that tells apart the numbers around each cell keeps equal rows equal, and active cells active.
-- Assumes nothing.
use mathlib.Core.Path.{◌≡◌, refl, sym, ap, ap₂, ◌∙◌}
use mathlib.Core.Bool.{Bool, false}
use mathlib.Core.List.{List, [], ◌∷◌, map, Memᴰ, head-eq_of_cons-eq, tail-eq_of_cons-eq}
use Prim.Native.Nat.{ℕ, zero, suc, ◌≤◌, ◌<◌, min, max}
use native.Mathlib.Nat.{min_comm, max_comm}
use native.Mathlib.Omega.{arith}
use lib.Dec.{eqb, leb}
use lib.ListN.{length}
use borrow.Author.Tests.{leb-true, leb-false}
use mathlib.Core.Bool.{cond}
use Rattle.cells.specs.Row.{once, insert_ascending, sort_ascending, pad_to, row_of, occupied}
use Rattle.cells.proofs.RowLaws.{Positive, row_positive, length-sort, has_entry, occupied_kept}
use Rattle.cells.proofs.RowFacts.{eqb_renamed, occurrences_renamed}
use Rattle.lists.specs.Lists.{keep}
use Rattle.lists.proofs.Lists.{length-keep}
use Rattle.lists.proofs.Tests.{keep_same}
use Rattle.lists.proofs.Cases.{by_test}

-- ---- sorting depends on the entries alone, and not on their order

least : (a b y : ℕ) → min a (min b y) ≡ min b (min a y)
least a b y = omega arith

middle : (a b y : ℕ) → y ≤ max a b → max a (min b y) ≡ max a y
middle a b y h = omega arith

middle_two : (a b y : ℕ) → max a b < y → max a (min b y) ≡ max b (min a y)
middle_two a b y h = omega arith

greatest : (a b y : ℕ) → max a b < y → max b y ≡ max a y
greatest a b y h = omega arith

insert_insert : (a b : ℕ) (l : List ℕ) → insert_ascending a (insert_ascending b l) ≡ insert_ascending b (insert_ascending a l)
insert_insert a b [] = rw (min_comm a b, max_comm a b)
insert_insert a b (y ∷ l) =
    by_test (leb y (max a b))
    (λ t.
    let h = leb-true y (max a b) t in
    rw (least a b y, middle a b y h, middle b a y (rw (max_comm b a) h)) (ap {B = List ℕ} (λ r. min b (min a y) ∷ r) (insert_insert (max a y) (max b y) l)))
    (λ t.
    let h = leb-false y (max a b) t in
    rw (least a b y, middle_two a b y h, greatest a b y h))

sort_insert : (g : ℕ → ℕ) (x : ℕ) (l : List ℕ) → sort_ascending (map g (insert_ascending x l)) ≡ insert_ascending (g x) (sort_ascending (map g l))
sort_insert g x [] = refl
sort_insert g x (y ∷ l) =
    ap (insert_ascending (g (min x y))) (sort_insert g (max x y) l)
    ∙ by_test (leb x y)
    (λ t.
    let h = leb-true x y t in
    let p : min x y ≡ x = omega arith in
    let q : max x y ≡ y = omega arith in
    rw (p, q))
    (λ t.
    let h = leb-false x y t in
    let p : min x y ≡ y = omega arith in
    let q : max x y ≡ x = omega arith in
    rw (p, q) (insert_insert (g y) (g x) (sort_ascending (map g l))))

pub sort_map : (g : ℕ → ℕ) (l : List ℕ) → sort_ascending (map g (sort_ascending l)) ≡ sort_ascending (map g l)
sort_map g [] = refl
sort_map g (x ∷ l) = sort_insert g x (sort_ascending l) ∙ ap (insert_ascending (g x)) (sort_map g l)

-- ---- six places hold a short list of numbers above 0 whole

places_same : (n : ℕ) (a b : List ℕ) → length a ≤ n → length b ≤ n → Positive a → Positive b → pad_to n a ≡ pad_to n b → a ≡ b
places_same n [] [] h k s t e = refl
places_same zero [] (y ∷ b) h k s t e = absurd (omega arith)
places_same (suc n) [] (y ∷ b) h k s t e = absurd (omega (arith, t.0, head-eq_of_cons-eq e))
places_same zero (x ∷ a) b h k s t e = absurd (omega arith)
places_same (suc n) (x ∷ a) [] h k s t e = absurd (omega (arith, s.0, head-eq_of_cons-eq e))
places_same (suc n) (x ∷ a) (y ∷ b) h k s t e =
    ap₂ {C = List ℕ} (λ u r. u ∷ r) (head-eq_of_cons-eq e) (places_same n a b (omega arith) (omega arith) s.1 t.1 (tail-eq_of_cons-eq e))

-- equal rows list the same numbers
row_entries : (xs ys : List ℕ) → length xs ≤ 6 → length ys ≤ 6 → row_of xs ≡ row_of ys → sort_ascending (keep (once xs) xs) ≡ sort_ascending (keep (once ys) ys)
unfolding row_of
row_entries xs ys h k e =
    places_same 6 (sort_ascending (keep (once xs) xs)) (sort_ascending (keep (once ys) ys))
    (omega (arith, length-sort (keep (once xs) xs), length-keep (once xs) xs))
    (omega (arith, length-sort (keep (once ys) ys), length-keep (once ys) ys))
    (row_positive xs xs) (row_positive ys ys) e

-- ---- a renaming g that tells the numbers xs apart, and 0 from all of them

pub record Tells (g : ℕ → ℕ) (xs : List ℕ) : Type 0 where
  pub nought : g 0 ≡ 0
  pub zeros : (x : ℕ) → Memᴰ x xs → g x ≡ 0 → x ≡ 0
  pub apart : (x y : ℕ) → Memᴰ x xs → Memᴰ y xs → g x ≡ g y → x ≡ y

once_renamed : (g : ℕ → ℕ) (xs : List ℕ) → Tells g xs → (x : ℕ) → Memᴰ x xs → once (map g xs) (g x) ≡ once xs x
once_renamed g xs r x m =
    ap₂ (λ (s t : Bool). cond s false t) (ap (eqb (g x)) (sym r.nought) ∙ eqb_renamed g x 0 (λ q. r.zeros x m (q ∙ r.nought)))
    (ap (λ (n : ℕ). eqb n 1) (occurrences_renamed g x xs (λ y k. r.apart x y m k)))

-- what is kept of renamed entries
pub keep_map : (h : ℕ → Bool) (g : ℕ → ℕ) (l : List ℕ) → keep h (map g l) ≡ map g (keep (λ x. h (g x)) l)
keep_map h g [] = refl
keep_map h g (x ∷ l) = by_test (h (g x)) (λ t. rw t (ap {B = List ℕ} (λ r. g x ∷ r) (keep_map h g l))) (λ t. rw t (keep_map h g l))

pub once_list : (g : ℕ → ℕ) (xs : List ℕ) → Tells g xs → keep (once (map g xs)) (map g xs) ≡ map g (keep (once xs) xs)
once_list g xs r = keep_map (once (map g xs)) g xs ∙ ap (map g) (keep_same (λ x. once (map g xs) (g x)) (once xs) xs (once_renamed g xs r))

-- equal rows stay equal
pub row_renamed : (g : ℕ → ℕ) (xs ys : List ℕ) → Tells g xs → Tells g ys → length xs ≤ 6 → length ys ≤ 6 → row_of xs ≡ row_of ys → row_of (map g xs) ≡ row_of (map g ys)
unfolding row_of
row_renamed g xs ys r s h k e =
    ap (pad_to 6)
    (ap sort_ascending (once_list g xs r)
    ∙ sym (sort_map g (keep (once xs) xs))
    ∙ ap (λ (l : List ℕ). sort_ascending (map g l)) (row_entries xs ys h k e)
    ∙ sort_map g (keep (once ys) ys)
    ∙ sym (ap sort_ascending (once_list g ys s)))

-- an occupied row stays occupied, and an empty one empty
entry_map : (g : ℕ → ℕ) (l : List ℕ) → has_entry (map g l) ≡ has_entry l
entry_map g [] = refl
entry_map g (x ∷ l) = refl

pub occupied_renamed : (g : ℕ → ℕ) (xs : List ℕ) → Tells g xs → occupied (row_of (map g xs)) ≡ occupied (row_of xs)
occupied_renamed g xs r = occupied_kept (map g xs) ∙ ap has_entry (once_list g xs r) ∙ entry_map g (keep (once xs) xs) ∙ sym (occupied_kept xs)
