-- A run of places of a table written one after the other, and the front of a table.
-- Assumes nothing.
use mathlib.Core.Path.{◌≡◌, refl, sym, ap, ap₂, subst, ◌∙◌}
use mathlib.Core.Bool.{cond}
use mathlib.Core.Logic.{◌≢◌}
use mathlib.Core.List.{List, ◌++◌}
use Prim.Native.Nat.{ℕ, zero, suc, ◌+◌, ◌*◌, ◌/◌, ◌%◌, ◌≤◌, ◌<◌}
use native.Mathlib.Nat.{add-zero, zero-add, add-suc, mul-add, mul-le-mul_left}
use native.Mathlib.Numerals.{add-one}
use native.Mathlib.Omega.{arith}
use lib.Arith.{digits_div, digits_lt, digits_mod}
use lib.Dec.{eqb, ltb}
use lib.ListN.{get_or, length, set, take, drop, length-set}
use lib.Seq.{ext_get_or, take_all, get_or-set_same, get_or-set_other, get_or-take, length-take-le, set-set, set_comm}
use borrow.Author.Tests.{eq-eqb, eqb-true, eqb-false, ne_eqb, ltb-true, ltb-false}
use Rattle.lists.specs.Lists.{tabulate, zeros, overlay}
use Rattle.lists.proofs.Cases.{by_test}
use Rattle.lists.proofs.Lists.{length-tabulate, get_or_tabulate, tabulate_zeros, front_more}

-- no place, one more, all
pub overlay_none : {A : Type 0} (xs : List A) (from : ℕ) (f : ℕ → A) → xs ≡ overlay xs from f 0
unfolding overlay
overlay_none xs from f = refl

pub overlay_end : {A : Type 0} (xs : List A) (from : ℕ) (f : ℕ → A) (i n : ℕ) (ys : List A) → i ≤ n → n ≤ i → ys ≡ overlay xs from f i → ys ≡ overlay xs from f n
overlay_end xs from f i n ys h k e = let s : i ≡ n = omega arith in e ∙ ap (overlay xs from f) s

pub overlay_next : {A : Type 0} (xs : List A) (from : ℕ) (f : ℕ → A) (n : ℕ) (v : A) (ys : List A) → ys ≡ overlay xs from f n → v ≡ f n → set ys (from + n) v ≡ overlay xs from f (n + 1)
unfolding overlay
overlay_next xs from f n v ys e i = rw (add-one n, e, i)

module _ (xs : List ℕ) (from : ℕ) (f : ℕ → ℕ) where
  pub length-overlay : (n : ℕ) → length (overlay xs from f n) ≡ length xs
  unfolding overlay
  length-overlay zero = refl
  length-overlay (suc n) = length-set (overlay xs from f n) (from + n) (f n) ∙ length-overlay n

  -- a place that is written
  pub overlay_at : (n i : ℕ) → i < n → from + n ≤ length xs → get_or (overlay xs from f n) (from + i) 0 ≡ f i
  unfolding overlay
  overlay_at zero i h l = absurd (omega arith)
  overlay_at (suc n) i h l =
      by_test (eqb i n)
      (λ t.
      let e : i ≡ n = eqb-true i n t in
      ap (λ (j : ℕ). get_or (set (overlay xs from f n) (from + n) (f n)) (from + j) 0) e
      ∙ get_or-set_same (overlay xs from f n) (from + n) (f n) 0 (omega (arith, length-overlay n))
      ∙ ap f (sym e))
      (λ t.
      let d : i ≢ n = eqb-false i n t in
      get_or-set_other (overlay xs from f n) (from + n) (from + i) (f n) 0 (λ q. d (omega arith)) ∙ overlay_at n i (omega arith) (omega arith))

  -- one that is not
  pub overlay_before : (n j : ℕ) → j < from → get_or (overlay xs from f n) j 0 ≡ get_or xs j 0
  unfolding overlay
  overlay_before zero j h = refl
  overlay_before (suc n) j h = get_or-set_other (overlay xs from f n) (from + n) j (f n) 0 (λ q. absurd (omega arith)) ∙ overlay_before n j h

  pub overlay_behind : (n j : ℕ) → from + n ≤ j → get_or (overlay xs from f n) j 0 ≡ get_or xs j 0
  unfolding overlay
  overlay_behind zero j h = refl
  overlay_behind (suc n) j h = get_or-set_other (overlay xs from f n) (from + n) j (f n) 0 (λ q. absurd (omega arith)) ∙ overlay_behind n j (omega arith)

-- an entry of a front that is tabled
pub front_at : (xs : List ℕ) (n : ℕ) (f : ℕ → ℕ) → take n xs ≡ tabulate n f → (i : ℕ) → i < n → get_or xs i 0 ≡ f i
front_at xs n f e i h = sym (get_or-take n xs i 0 h) ∙ ap (λ (l : List ℕ). get_or l i 0) e ∙ get_or_tabulate n f i h

-- n more values written over the front of xs
pub front_overlay : (xs : List ℕ) (f : ℕ → ℕ) (p n : ℕ) → p + n ≤ length xs → overlay (tabulate p f ++ drop p xs) p (λ i. f (p + i)) n ≡ tabulate (p + n) f ++ drop (p + n) xs
unfolding overlay
front_overlay xs f p zero h = rw (add-zero p)
front_overlay xs f p (suc n) h =
    let next : p + n + 1 ≡ p + suc n = omega arith in
    ap (λ (l : List ℕ). set l (p + n) (f (p + n))) (front_overlay xs f p n (omega arith)) ∙ front_more (p + n) xs f (omega arith) ∙ rw next

-- writing the same is the same
pub overlay_same : (xs : List ℕ) (from : ℕ) (f g : ℕ → ℕ) (n : ℕ) → ((i : ℕ) → i < n → f i ≡ g i) → overlay xs from f n ≡ overlay xs from g n
unfolding overlay
overlay_same xs from f g zero h = refl
overlay_same xs from f g (suc n) h =
    ap₂ (λ (l : List ℕ) (v : ℕ). set l (from + n) v) (overlay_same xs from f g n (λ i l. h i (omega arith))) (h n (omega arith))

-- n values, and k more behind them
pub overlay_more : (xs : List ℕ) (a n : ℕ) (g : ℕ → ℕ) (k : ℕ) → overlay (overlay xs a g n) (a + n) (λ i. g (n + i)) k ≡ overlay xs a g (n + k)
unfolding overlay
overlay_more xs a n g zero = rw (add-zero n)
overlay_more xs a n g (suc k) =
    let s : a + n + k ≡ a + (n + k) = omega arith in
    rw (add-suc n k, s) (ap (λ (l : List ℕ). set l (a + (n + k)) (g (n + k))) (overlay_more xs a n g k))

-- a place written again
pub overlay_again : (xs : List ℕ) (from : ℕ) (f : ℕ → ℕ) (v n k : ℕ) → k < n → set (overlay xs from f n) (from + k) v ≡ overlay xs from (λ i. cond (eqb i k) v (f i)) n
unfolding overlay
overlay_again xs from f v zero k h = absurd (omega arith)
overlay_again xs from f v (suc n) k h =
    by_test (eqb n k)
    (λ t.
    let e : n ≡ k = eqb-true n k t in
    subst (λ (k' : ℕ). set (overlay xs from f (suc n)) (from + k') v ≡ overlay xs from (λ i. cond (eqb i k') v (f i)) (suc n)) e
    (rw (eq-eqb n n refl) (set-set (overlay xs from f n) (from + n) (f n) v ∙ ap (λ (l : List ℕ). set l (from + n) v) (overlay_same xs from f (λ i. cond (eqb i n) v (f i)) n (λ i l. let d : i ≢ n = λ q. omega arith in rw (ne_eqb i n d))))))
    (λ t.
    let d : n ≢ k = eqb-false n k t in
    rw t (set_comm (overlay xs from f n) (from + n) (from + k) (f n) v (λ q. d (omega arith)) ∙ ap (λ (l : List ℕ). set l (from + n) (f n)) (overlay_again xs from f v n k (omega arith))))

-- ---- a table that is written from its front on

-- one place more
pub written_next : (xs : List ℕ) (f : ℕ → ℕ) (i v : ℕ) (ys : List ℕ) → ys ≡ overlay xs 0 f i → v ≡ f i → set ys i v ≡ overlay xs 0 f (i + 1)
unfolding overlay
written_next xs f i v ys e q = rw (add-one, e, q, zero-add i)

pub written_long : (xs : List ℕ) (f : ℕ → ℕ) (i : ℕ) (ys : List ℕ) → ys ≡ overlay xs 0 f i → length ys ≡ length xs
written_long xs f i ys e = rw e (length-overlay xs 0 f i)

-- a place that is written, and one that is not
pub written_read : (xs : List ℕ) (f : ℕ → ℕ) (i : ℕ) (ys : List ℕ) → ys ≡ overlay xs 0 f i → i ≤ length xs → (j : ℕ) → j < i → get_or ys j 0 ≡ f j
written_read xs f i ys e h j l = rw e (rw (zero-add j) at (overlay_at xs 0 f i j l (omega arith)))

pub written_behind : (xs : List ℕ) (f : ℕ → ℕ) (i : ℕ) (ys : List ℕ) → ys ≡ overlay xs 0 f i → (j : ℕ) → i ≤ j → get_or ys j 0 ≡ get_or xs j 0
written_behind xs f i ys e j l = rw e (overlay_behind xs 0 f i j (omega arith))

-- what stood at the places that are written has no effect
pub written_again : (xs ys : List ℕ) (f : ℕ → ℕ) (n : ℕ) → n ≤ length xs → length ys ≡ length xs → ((j : ℕ) → n ≤ j → get_or ys j 0 ≡ get_or xs j 0)
    → overlay ys 0 f n ≡ overlay xs 0 f n
written_again xs ys f n h e k =
    ext_get_or 0 (overlay ys 0 f n) (overlay xs 0 f n) (length-overlay ys 0 f n ∙ e ∙ sym (length-overlay xs 0 f n))
    (λ j l. by_test (ltb j n)
    (λ t. let a : j < n = ltb-true j n t in
    written_read ys f n (overlay ys 0 f n) refl (omega arith) j a ∙ sym (written_read xs f n (overlay xs 0 f n) refl h j a))
    (λ t. let a : n ≤ j = ltb-false j n t in
    written_behind ys f n (overlay ys 0 f n) refl j a ∙ k j a ∙ sym (written_behind xs f n (overlay xs 0 f n) refl j a)))

-- the front that is written
pub overlay_front : (xs : List ℕ) (f : ℕ → ℕ) (n : ℕ) → n ≤ length xs → take n (overlay xs 0 f n) ≡ tabulate n f
overlay_front xs f n h =
    ext_get_or 0 (take n (overlay xs 0 f n)) (tabulate n f) (long ∙ sym (length-tabulate n f))
    (λ i l.
    let hi : i < n = omega (arith, long) in
    get_or-take n (overlay xs 0 f n) i 0 hi ∙ ap (λ (j : ℕ). get_or (overlay xs 0 f n) j 0) (sym (zero-add i)) ∙ overlay_at xs 0 f n i hi (omega arith) ∙ sym (get_or_tabulate n f i hi))
  where
    long : length (take n (overlay xs 0 f n)) ≡ n
    long = length-take-le n (overlay xs 0 f n) (omega (arith, length-overlay xs 0 f n))

-- zeros all over
pub overlay_zeros : (xs ys : List ℕ) → ys ≡ overlay xs 0 (λ _. 0) (length xs) → ys ≡ zeros (length xs)
overlay_zeros xs ys e =
    let n : ℕ = length xs in
    let l : length (overlay xs 0 (λ _. 0) n) ≡ n = length-overlay xs 0 (λ _. 0) n in
    e ∙ sym (take_all n (overlay xs 0 (λ _. 0) n) (omega arith)) ∙ overlay_front xs (λ _. 0) n (omega arith) ∙ tabulate_zeros n

-- the next place of a table that is read and written
pub renewed_next : (f : ℕ → ℕ) (xs ys : List ℕ) (i v : ℕ) → ys ≡ overlay xs 0 (λ k. f (get_or xs k 0)) i → v ≡ f (get_or ys i 0) → set ys i v ≡ overlay xs 0 (λ k. f (get_or xs k 0)) (i + 1)
renewed_next f xs ys i v e p =
    let g : ℕ → ℕ = λ k. f (get_or xs k 0) in
    let same : get_or ys i 0 ≡ get_or xs i 0 = ap (λ (l : List ℕ). get_or l i 0) e ∙ overlay_behind xs 0 g i i (omega arith) in
    ap (λ (k : ℕ). set ys k v) (sym (zero-add i)) ∙ overlay_next xs 0 g i v ys e (p ∙ ap f same)

-- ---- rows of w places

pub row_place : (w x n i : ℕ) → x < n → i < w → w * x + i < w * n
row_place w x n i h k = let d : x * w + i < n * w = digits_lt h k in omega arith

-- the i-th place of row x, counted through the rows
pub row_split : (w x i : ℕ) → i < w → ((w * x + i) / w ≡ x) × ((w * x + i) % w ≡ i)
row_split w x i h =
    let e : w * x + i ≡ x * w + i = omega arith in
    (ap (λ (n : ℕ). n / w) e ∙ digits_div x h, ap (λ (n : ℕ). n % w) e ∙ digits_mod x h)

-- a place of a run of rows, written row by row
pub rows_at : (xs : List ℕ) (w n : ℕ) (f : ℕ → ℕ → ℕ) (k x i : ℕ) → x < k → i < w → w * n + w * k ≤ length xs
    → get_or (overlay xs (w * n) (λ j. f (j / w) (j % w)) (w * k)) (w * (n + x) + i) 0 ≡ f x i
rows_at xs w n f k x i hx hi l =
    let e : w * (n + x) + i ≡ w * n + (w * x + i) = omega (arith, mul-add w n x) in
    let q = row_split w x i hi in
    ap (λ (j : ℕ). get_or (overlay xs (w * n) (λ j. f (j / w) (j % w)) (w * k)) j 0) e
    ∙ overlay_at xs (w * n) (λ j. f (j / w) (j % w)) (w * k) (w * x + i) (row_place w x k i hx hi) l
    ∙ ap₂ f q.0 q.1

pub rows_before : (xs : List ℕ) (w n : ℕ) (f : ℕ → ℕ) (k x i : ℕ) → x < n → i < w → get_or (overlay xs (w * n) f k) (w * x + i) 0 ≡ get_or xs (w * x + i) 0
rows_before xs w n f k x i hx hi = overlay_before xs (w * n) f k (w * x + i) (row_place w x n i hx hi)

-- no row, one more, all
pub rows_none : (xs : List ℕ) (w from : ℕ) (f : ℕ → ℕ) → xs ≡ overlay xs (w * from) f (w * 0)
unfolding overlay
rows_none xs w from f = let z : w * 0 ≡ 0 = omega arith in rw z

pub rows_next : (xs : List ℕ) (w from : ℕ) (f : ℕ → ℕ → ℕ) (n : ℕ) (h : ℕ → ℕ) (ys zs : List ℕ) → ys ≡ overlay xs (w * from) (λ i. f (i / w) (i % w)) (w * n) → zs ≡ overlay ys (w * (from + n)) h w
    → ((i : ℕ) → i < w → h i ≡ f n i) → zs ≡ overlay xs (w * from) (λ i. f (i / w) (i % w)) (w * (n + 1))
rows_next xs w from f n h ys zs e i same =
    let g : ℕ → ℕ = λ i. f (i / w) (i % w) in
    let s : w * (from + n) ≡ w * from + w * n = omega arith in
    let t : w * n + w ≡ w * (n + 1) = omega arith in
    i ∙ ap₂ (λ (l : List ℕ) (a : ℕ). overlay l a h w) e s
    ∙ overlay_same (overlay xs (w * from) g (w * n)) (w * from + w * n) h (λ i. g (w * n + i)) w
    (λ k l. let q = row_split w n k l in same k l ∙ sym (ap₂ f q.0 q.1))
    ∙ overlay_more xs (w * from) (w * n) g w ∙ ap (overlay xs (w * from) g) t

pub rows_all : (xs : List ℕ) (w from : ℕ) (f : ℕ → ℕ) (i n : ℕ) (ys : List ℕ) → i ≤ n → n ≤ i → ys ≡ overlay xs (w * from) f (w * i) → ys ≡ overlay xs (w * from) f (w * n)
rows_all xs w from f i n ys h k e = let s : i ≡ n = omega arith in e ∙ ap (λ (x : ℕ). overlay xs (w * from) f (w * x)) s

-- row i behind the first has room
pub row_room : (w from count i : ℕ) → i < count → w * (from + i) + w ≤ w * (from + count)
row_room w from count i h = let s : w * (from + i + 1) ≤ w * (from + count) = mul-le-mul_left w (omega arith) in omega arith

-- .. from the front on
module _ (xs : List ℕ) (w : ℕ) (f : ℕ → ℕ → ℕ) where
  abbrev listed : ℕ → List ℕ
  listed n = overlay xs 0 (λ i. f (i / w) (i % w)) (w * n)

  pub listed_none : xs ≡ listed 0
  unfolding overlay
  listed_none = let z : w * 0 ≡ 0 = omega arith in rw z

  pub listed_next : (n : ℕ) (h : ℕ → ℕ) (ys zs : List ℕ) → ys ≡ listed n → zs ≡ overlay ys (w * n) h w → ((i : ℕ) → i < w → h i ≡ f n i) → zs ≡ listed (n + 1)
  listed_next n h ys zs e i same =
      let z : w * 0 ≡ 0 = omega arith in
      let s : w * n ≡ w * (0 + n) = omega arith in
      rw z at (rows_next xs w 0 f n h ys zs (rw z e) (i ∙ ap (λ (a : ℕ). overlay ys a h w) s) same)

  pub listed_all : (i n : ℕ) (ys : List ℕ) → i ≤ n → n ≤ i → ys ≡ listed i → ys ≡ listed n
  listed_all i n ys h k e = let s : i ≡ n = omega arith in e ∙ ap listed s

-- row i has room
pub listed_room : (w n i : ℕ) → i < n → w * i + w ≤ w * n
listed_room w n i h = omega (arith, row_room w 0 n i h)
