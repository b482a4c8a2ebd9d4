-- What kept entries, ranges and tables hold, and loops that write a table from the front.
-- Assumes nothing.
use mathlib.Core.Path.{◌≡◌, refl, sym, ap, ap₂, ◌∙◌}
use mathlib.Core.Bool.{Bool, true}
use mathlib.Core.Logic.{◌⊎◌, inl, inr, ◌≢◌}
use mathlib.Core.List.Memᴰ
use mathlib.Core.List.{List, [], ◌∷◌, ◌++◌, map, append_assoc, append-nil, Memᴰ}
use Prim.Native.Nat.{ℕ, zero, suc, ◌+◌, ◌-◌, ◌≤◌, ◌<◌}
use native.Mathlib.Nat.{le_refl, suc-add, add-suc, add-zero, zero-add}
use native.Mathlib.Numerals.{add-one}
use native.Mathlib.Omega.{arith}
use lib.Dec.{eqb}
use lib.ListN.{length, get_or, set, drop, length-replicate, length-map, drop_of_length-le, get_or-append, get_or-map, get_or-eq_default}
use lib.Seq.{set_at, drop-cons, get_or-append-add, get_or-drop}
use borrow.Author.Tests.{eqb-true, eqb-false}
use Rattle.lists.specs.Lists.{consecutive, tabulate, keep, zeros}
use Rattle.lists.proofs.Cases.{by_test, picked}

-- ---- keep

module _ {A : Type 0} (f : A → Bool) where
  pub keep_in : (l : List A) {x : A} → Memᴰ x l → f x ≡ true → Memᴰ x (keep f l)
  keep_in [] m t = absurd (Memᴰ.not-nil m)
  keep_in (y ∷ l) {x} m t = go (Memᴰ.cases_cons m) (λ k. keep_in l k t)
    where
      go : (x ≡ y) ⊎ Memᴰ x l → (Memᴰ x l → Memᴰ x (keep f l)) → Memᴰ x (keep f (y ∷ l))
      go (inl e) ih = rw (ap f (sym e) ∙ t) (Memᴰ.head e)
      go (inr k) ih = picked (Memᴰ x) (f y) (y ∷ keep f l) (keep f l) (λ _. Memᴰ.tail (ih k)) (λ _. ih k)

  pub keep_out : (l : List A) {x : A} → Memᴰ x (keep f l) → Memᴰ x l × (f x ≡ true)
  keep_out [] m = absurd (Memᴰ.not-nil m)
  keep_out (y ∷ l) {x} m = picked (λ (k : List A). Memᴰ x k → Memᴰ x (y ∷ l) × (f x ≡ true)) (f y) (y ∷ keep f l) (keep f l) (λ t n. go t (Memᴰ.cases_cons n) (λ k. keep_out l k)) (λ t n. later (keep_out l n)) m
    where
      later : Memᴰ x l × (f x ≡ true) → Memᴰ x (y ∷ l) × (f x ≡ true)
      later r = (Memᴰ.tail r.0, r.1)

      go : f y ≡ true → (x ≡ y) ⊎ Memᴰ x (keep f l) → (Memᴰ x (keep f l) → Memᴰ x l × (f x ≡ true)) → Memᴰ x (y ∷ l) × (f x ≡ true)
      go t (inl e) ih = (Memᴰ.head e, ap f e ∙ t)
      go t (inr k) ih = later (ih k)

  pub keep_append : (l k : List A) → keep f (l ++ k) ≡ keep f l ++ keep f k
  keep_append [] k = refl
  keep_append (x ∷ l) k = by_test (f x) (λ t. rw (t, keep_append l k)) (λ t. rw (t, keep_append l k))

  pub length-keep : (l : List A) → length (keep f l) ≤ length l
  length-keep [] = omega arith
  length-keep (x ∷ l) = picked (λ (r : List A). length r ≤ suc (length l)) (f x) (x ∷ keep f l) (keep f l) (λ t. omega (arith, length-keep l)) (λ t. omega (arith, length-keep l))

-- ---- range

pub consecutive_in : (i n : ℕ) {p : ℕ} → i ≤ p → p < i + n → Memᴰ p (consecutive i n)
unfolding consecutive
consecutive_in i zero h k = absurd (omega arith)
consecutive_in i (suc n) {p} h k =
    by_test (eqb p i) (λ t. Memᴰ.head (eqb-true p i t))
    (λ t. let d : p ≢ i = eqb-false p i t in Memᴰ.tail (consecutive_in (suc i) n (omega arith) (omega arith)))

pub consecutive_out : (i n : ℕ) {p : ℕ} → Memᴰ p (consecutive i n) → (i ≤ p) × (p < i + n)
unfolding consecutive
consecutive_out i zero m = absurd (Memᴰ.not-nil m)
consecutive_out i (suc n) {p} m = go (Memᴰ.cases_cons m) (λ k. consecutive_out (suc i) n k)
  where
    go : (p ≡ i) ⊎ Memᴰ p (consecutive (suc i) n) → (Memᴰ p (consecutive (suc i) n) → (suc i ≤ p) × (p < suc i + n)) → (i ≤ p) × (p < i + suc n)
    go (inl e) ih = omega arith
    go (inr k) ih = let r = ih k in omega arith

-- the first a numbers, and the others
pub consecutive_split : (i a b : ℕ) → consecutive i (a + b) ≡ consecutive i a ++ consecutive (i + a) b
unfolding consecutive
consecutive_split i zero b = rw (zero-add b, add-zero i)
consecutive_split i (suc a) b = rw (suc-add a b, consecutive_split (suc i) a b, suc-add i a, add-suc i a)

-- the first number of what is left
pub consecutive_left : (i n : ℕ) → i < n → consecutive i (n - i) ≡ i ∷ consecutive (suc i) (n - suc i)
unfolding consecutive
consecutive_left i n h = let e : n - i ≡ suc (n - suc i) = omega arith in rw e

length-map_consecutive : (f : ℕ → ℕ) (i n : ℕ) → length (map f (consecutive i n)) ≡ n
unfolding consecutive
length-map_consecutive f i zero = refl
length-map_consecutive f i (suc n) = ap suc (length-map_consecutive f (suc i) n)

get_or-map_consecutive : (f : ℕ → ℕ) (i n p d : ℕ) → p < n → get_or (map f (consecutive i n)) p d ≡ f (i + p)
unfolding consecutive
get_or-map_consecutive f i zero p d h = absurd (omega arith)
get_or-map_consecutive f i (suc n) zero d h = ap f (sym (add-zero i))
get_or-map_consecutive f i (suc n) (suc p) d h = get_or-map_consecutive f (suc i) n p d (omega arith) ∙ ap f (suc-add i p ∙ sym (add-suc i p))

pub length-consecutive : (i n : ℕ) → length (consecutive i n) ≡ n
length-consecutive i n = sym (length-map (consecutive i n) (λ k. k)) ∙ length-map_consecutive (λ k. k) i n

pub get_or-consecutive : (i n p : ℕ) → p < n → get_or (consecutive i n) p 0 ≡ i + p
get_or-consecutive i n p h = sym (get_or-map (λ k. k) (consecutive i n) p 0) ∙ get_or-map_consecutive (λ k. k) i n p 0 h

map-consecutive_snoc : (f : ℕ → ℕ) (i n : ℕ) → map f (consecutive i (suc n)) ≡ map f (consecutive i n) ++ (f (i + n) ∷ [])
unfolding consecutive
map-consecutive_snoc f i zero = rw (add-zero i)
map-consecutive_snoc f i (suc n) = ap (λ l. f i ∷ l) (map-consecutive_snoc f (suc i) n ∙ rw (suc-add i n, add-suc i n))

pub map-consecutive_suc : (f : ℕ → ℕ) (i n : ℕ) → map f (consecutive (suc i) n) ≡ map (λ k. f (suc k)) (consecutive i n)
unfolding consecutive
map-consecutive_suc f i zero = refl
map-consecutive_suc f i (suc n) = ap (λ l. f (suc i) ∷ l) (map-consecutive_suc f (suc i) n)

-- ---- tabulate

pub length-tabulate : (n : ℕ) (f : ℕ → ℕ) → length (tabulate n f) ≡ n
unfolding tabulate
length-tabulate n f = length-map_consecutive f 0 n

pub get_or_tabulate : (n : ℕ) (f : ℕ → ℕ) (k : ℕ) → k < n → get_or (tabulate n f) k 0 ≡ f k
unfolding tabulate
get_or_tabulate n f k h = get_or-map_consecutive f 0 n k 0 h ∙ ap f (zero-add k)

pub tabulate_snoc : (n : ℕ) (f : ℕ → ℕ) → tabulate (suc n) f ≡ tabulate n f ++ (f n ∷ [])
unfolding tabulate
tabulate_snoc n f = map-consecutive_snoc f 0 n ∙ rw (zero-add n)

-- the first value apart
pub tabulate_cons : (n : ℕ) (f : ℕ → ℕ) → tabulate (suc n) f ≡ f 0 ∷ tabulate n (λ k. f (suc k))
unfolding tabulate consecutive
tabulate_cons n f = ap (λ l. f 0 ∷ l) (map-consecutive_suc f 0 n)

-- ---- zeros

pub length-zeros : (n : ℕ) → length (zeros n) ≡ n
unfolding zeros
length-zeros n = length-replicate n 0

pub zeros_at : (n i : ℕ) → get_or (zeros n) i 0 ≡ 0
unfolding zeros
zeros_at zero i = refl
zeros_at (suc n) zero = refl
zeros_at (suc n) (suc i) = zeros_at n i

pub tabulate_zeros : (n : ℕ) → tabulate n (λ _. 0) ≡ zeros n
unfolding tabulate consecutive zeros
tabulate_zeros zero = refl
tabulate_zeros (suc n) = tabulate_cons n (λ _. 0) ∙ ap (λ l. 0 ∷ l) (tabulate_zeros n)

-- ---- n values written over the front of d: nothing yet, one more, all

pub front_none : (d : List ℕ) (f : ℕ → ℕ) → d ≡ tabulate 0 f ++ drop 0 d
unfolding tabulate consecutive
front_none d f = refl

pub front_more : (n : ℕ) (d : List ℕ) (f : ℕ → ℕ) → n < length d → set (tabulate n f ++ drop n d) n (f n) ≡ tabulate (n + 1) f ++ drop (n + 1) d
front_more n d f h =
    rw (drop-cons d n 0, set_at (tabulate n f) (get_or d n 0) (drop (suc n) d) (f n) n (length-tabulate n f), add-one, tabulate_snoc n f, append_assoc)

pub front_all : (d : List ℕ) (f : ℕ → ℕ) (n : ℕ) → length d ≡ n → tabulate n f ++ drop n d ≡ tabulate n f
front_all d f n h = rw (drop_of_length-le d {i = n} (omega arith)) (append-nil _)

-- what stands there: the values, and then what was there before
pub front_rest : (n : ℕ) (d : List ℕ) (f : ℕ → ℕ) (k : ℕ) → n ≤ k → get_or (tabulate n f ++ drop n d) k 0 ≡ get_or d k 0
front_rest n d f k h =
    let e : k ≡ length (tabulate n f) + (k - n) = omega (arith, length-tabulate n f) in
    let g : n + (k - n) ≡ k = omega arith in
    ap (λ j. get_or (tabulate n f ++ drop n d) j 0) e ∙ rw (get_or-append-add, get_or-drop, g)

pub front_done : (n : ℕ) (d : List ℕ) (f : ℕ → ℕ) (k : ℕ) → k < n → get_or (tabulate n f ++ drop n d) k 0 ≡ f k
front_done n d f k h = get_or-append (tabulate n f) (drop n d) 0 k (omega (arith, length-tabulate n f)) ∙ get_or_tabulate n f k h

-- ---- map and drop

pub map_same : (f g : ℕ → ℕ) (l : List ℕ) → ((q : ℕ) → Memᴰ q l → f q ≡ g q) → map f l ≡ map g l
map_same f g [] h = refl
map_same f g (x ∷ l) h = ap₂ {C = List ℕ} (λ a r. a ∷ r) (h x (Memᴰ.head refl)) (map_same f g l (λ q m. h q (Memᴰ.tail m)))

pub tabulate_same : (n : ℕ) (f g : ℕ → ℕ) → ((i : ℕ) → i < n → f i ≡ g i) → tabulate n f ≡ tabulate n g
unfolding tabulate
tabulate_same n f g h = map_same f g (consecutive 0 n) (λ i m. h i (omega (arith, consecutive_out 0 n m)))

pub get_or-in : (l : List ℕ) (k : ℕ) → k < length l → Memᴰ (get_or l k 0) l
get_or-in [] k h = absurd (omega arith)
get_or-in (x ∷ l) zero h = Memᴰ.head refl
get_or-in (x ∷ l) (suc k) h = Memᴰ.tail (get_or-in l k (omega arith))

-- an entry has a place
pub in_get_or : (l : List ℕ) {p : ℕ} → Memᴰ p l → (i : ℕ) × (i < length l) × (get_or l i 0 ≡ p)
in_get_or [] m = absurd (Memᴰ.not-nil m)
in_get_or (y ∷ l) {p} m = go (Memᴰ.cases_cons m) (λ q. in_get_or l q)
  where
    go : (p ≡ y) ⊎ Memᴰ p l → (Memᴰ p l → (i : ℕ) × (i < length l) × (get_or l i 0 ≡ p)) → (i : ℕ) × (i < length (y ∷ l)) × (get_or (y ∷ l) i 0 ≡ p)
    go (inl e) ih = (0, omega arith, sym e)
    go (inr q) ih = let r = ih q in (suc r.0, omega (arith, r.1), r.2)

pub pair_same : {a b c d : ℕ} → a ≡ c → b ≡ d → a ∷ b ∷ [] ≡ c ∷ d ∷ []
pair_same p q = rw (p, q)

-- past the end
pub past : (l : List ℕ) (i : ℕ) → length l ≤ i → 0 ≡ get_or l i 0
past l i h = sym (get_or-eq_default l 0 {n = i} h)

-- what is left from i - 1 on, where a loop has come down to i
pub drop-down : (a : List ℕ) (i : ℕ) → 0 < i → i ≤ length a → drop (i - 1) a ≡ get_or a (i - 1) 0 ∷ drop i a
drop-down a i p q =
    let e : suc (i - 1) ≡ i = omega arith in
    let h : i - 1 < length a = omega arith in
    rw e at (drop-cons a (i - 1) 0 h)

-- ---- ascending lists

-- Strictly ascending, from b on.
abbrev pub Ascends : ℕ → List ℕ → Type 0
Ascends b [] = Unit {0}
Ascends b (x ∷ l) = (b ≤ x) × Ascends (suc x) l

ascends_less : (b c : ℕ) (l : List ℕ) → b ≤ c → Ascends c l → Ascends b l
ascends_less b c [] h a = tt
ascends_less b c (x ∷ l) h a = (omega (arith, a.0), a.1)

pub ascends_consecutive : (i n : ℕ) → Ascends i (consecutive i n)
unfolding consecutive
ascends_consecutive i zero = tt
ascends_consecutive i (suc n) = (le_refl i, ascends_consecutive (suc i) n)

pub ascends_keep : (f : ℕ → Bool) (b : ℕ) (l : List ℕ) → Ascends b l → Ascends b (keep f l)
ascends_keep f b [] a = tt
ascends_keep f b (x ∷ l) a =
    picked (Ascends b) (f x) (x ∷ keep f l) (keep f l)
    (λ _. (a.0, ascends_keep f (suc x) l a.1))
    (λ _. ascends_less b (suc x) (keep f l) (omega (arith, a.0)) (ascends_keep f (suc x) l a.1))

pub ascends_le : (b : ℕ) (l : List ℕ) {x : ℕ} → Ascends b l → Memᴰ x l → b ≤ x
ascends_le b [] s m = absurd (Memᴰ.not-nil m)
ascends_le b (y ∷ l) {x} s m = go (Memᴰ.cases_cons m) (λ k. ascends_le (suc y) l s.1 k)
  where
    go : (x ≡ y) ⊎ Memᴰ x l → (Memᴰ x l → suc y ≤ x) → b ≤ x
    go (inl e) ih = omega (arith, s.0)
    go (inr k) ih = omega (arith, s.0, ih k)

-- entries by place
pub ascends_at : (b : ℕ) (l : List ℕ) → Ascends b l → (i j : ℕ) → i < j → j < length l → get_or l i 0 < get_or l j 0
ascends_at b [] a i j h k = absurd (omega arith)
ascends_at b (x ∷ l) a i zero h k = absurd (omega arith)
ascends_at b (x ∷ l) a zero (suc j) h k = ascends_le (suc x) l a.1 (get_or-in l j (omega arith))
ascends_at b (x ∷ l) a (suc i) (suc j) h k = ascends_at (suc x) l a.1 i j (omega arith) (omega arith)
