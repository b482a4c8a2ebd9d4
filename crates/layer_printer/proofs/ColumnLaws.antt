-- The five columns of a cell or of a blank place.
-- Assumes nothing.
use mathlib.Core.Path.{◌≡◌, refl, sym, ap, ◌∙◌}
use mathlib.Core.Bool.{true}
use mathlib.Core.List.{List, [], ◌∷◌, ◌++◌, append_assoc}
use Prim.Native.Nat.{ℕ, zero, suc, ◌+◌, ◌-◌, ◌/◌, ◌%◌, ◌^◌, ◌≤◌, ◌<◌}
use native.Mathlib.Nat.{pow-suc}
use native.Mathlib.Omega.{arith}
use lib.Dec.{eqb, ltb}
use lib.ListN.{length, get_or, replicate, length-append, replicate-append-replicate, get_or-replicate}
use borrow.Author.Tests.{ltb-true, ltb-false, eqb-true, eqb-false, eq-eqb, ne_eqb, lt-ltb, le-ltb}
use Rattle.lists.specs.Lists.{all_of}
use Rattle.lists.proofs.Cases.{by_test}
use Rattle.lists.proofs.Lists.{get_or-in}
use Rattle.lists.proofs.Tests.{all_out}
use Rattle.decimals.specs.Decimals.{decimal_in, decimal_digits}
use Rattle.decimals.proofs.DecimalLaws.{digit_byte, digits_low, digits_high}
use Rattle.layer_printer.specs.Printed.{right_aligned, cell_columns, place_columns}
use Rattle.layer_printer.specs.Places.{is_column}
use Rattle.layer_printer.specs.Inner.{column_byte}

-- ---- a number, column by column from the last one on

unfoldable columns : ℕ → ℕ → List ℕ
columns zero n = []
columns (suc w) n = columns w (n / 10) ++ (column_byte n ∷ [])

column_digit : (n : ℕ) → (n ≡ 0 → ⊥) → 48 + n % 10 ≡ column_byte n
unfolding column_byte
column_digit n d = rw (ne_eqb n 0 d)

columns_length : (w n : ℕ) → length (columns w n) ≡ w
unfolding columns
columns_length zero n = refl
columns_length (suc w) n = length-append (columns w (n / 10)) (column_byte n ∷ []) ∙ omega (arith, columns_length w (n / 10))

-- 0 has spaces only
columns_blank : (w : ℕ) → columns w 0 ≡ replicate w 32
unfolding columns column_byte
columns_blank zero = refl
columns_blank (suc w) =
    let s : w + 1 ≡ suc w = omega arith in
    ap (λ (l : List ℕ). l ++ (32 ∷ [])) (columns_blank w) ∙ replicate-append-replicate w 1 32 ∙ ap (λ (k : ℕ). replicate k 32) s

-- the digits stand at the end, spaces before them
columns_aligned : (w f n : ℕ) → 0 < n → n < 10 ^ w → w ≤ f → columns w n ≡ replicate (w - length (decimal_in f n)) 32 ++ decimal_in f n
unfolding columns
columns_aligned zero f n p h l = absurd (omega arith)
columns_aligned (suc w) zero n p h l = absurd (omega arith)
columns_aligned (suc w) (suc f) n p h l =
    let last : 48 + n % 10 ≡ column_byte n = column_digit n (λ z. omega arith) in
    by_test (ltb n 10)
    (λ t.
    let low : n < 10 = ltb-true n 10 t in
    let none : n / 10 ≡ 0 = omega arith in
    let self : n % 10 ≡ n = omega arith in
    let s : suc w - 1 ≡ w = omega arith in
    rw (digits_low f n low, s, none, columns_blank w, ← last, self))
    (λ t.
    let high : 10 ≤ n = ltb-false n 10 t in
    let d = decimal_in f (n / 10) in
    let s : suc w - (length d + 1) ≡ w - length d = omega arith in
    rw (digits_high f n high, length-append d ((48 + n % 10) ∷ []), s, ← last, columns_aligned w f (n / 10) (omega arith) (omega (arith, pow-suc 10 w)) (omega arith))
    (append_assoc (replicate (w - length d) 32) d ((48 + n % 10) ∷ [])))

-- A number up to 99,999 by its five columns.
pub number_columns : (n : ℕ) → 0 < n → n ≤ 99999
    → right_aligned (decimal_digits n) ≡ column_byte (n / 10000) ∷ column_byte (n / 1000) ∷ column_byte (n / 100) ∷ column_byte (n / 10) ∷ column_byte n ∷ []
unfolding columns right_aligned decimal_digits
number_columns n p h =
    let a : n / 10000 ≡ n / 10 / 10 / 10 / 10 = omega arith in
    let b : n / 1000 ≡ n / 10 / 10 / 10 = omega arith in
    let c : n / 100 ≡ n / 10 / 10 = omega arith in
    rw (a, b, c) (sym (columns_aligned 5 10 n p (omega arith) (omega arith)))

-- ---- the ways of a cell and of a place

module _ (n : ℕ) where
  -- "Inactive is a dot in the last column."
  pub cell_inactive : n ≡ 0 → cell_columns n ≡ 32 ∷ 32 ∷ 32 ∷ 32 ∷ 46 ∷ []
  unfolding cell_columns right_aligned
  cell_inactive e = rw (eq-eqb n 0 e)

  -- "Above 99,999 is five hash signs."
  pub cell_large : 99999 < n → cell_columns n ≡ 35 ∷ 35 ∷ 35 ∷ 35 ∷ 35 ∷ []
  unfolding cell_columns
  cell_large h = rw (ne_eqb n 0 (λ e. omega arith), lt-ltb 99999 n h)

  -- "Each number right-aligned in 5 columns."
  pub cell_number_lem : 0 < n → n ≤ 99999 → cell_columns n ≡ right_aligned (decimal_digits n)
  unfolding cell_columns
  cell_number_lem p h = rw (ne_eqb n 0 (λ e. omega arith), le-ltb 99999 n h)

  -- what holds in each of the three ways holds
  by_number : (P : List ℕ → Type 0) → P (32 ∷ 32 ∷ 32 ∷ 32 ∷ 46 ∷ []) → P (35 ∷ 35 ∷ 35 ∷ 35 ∷ 35 ∷ []) → (0 < n → n ≤ 99999 → P (right_aligned (decimal_digits n))) → P (cell_columns n)
  by_number P a b c =
      by_test (eqb n 0) (λ t. rw (cell_inactive (eqb-true n 0 t)) a)
      (λ t.
      let d : n ≡ 0 → ⊥ = eqb-false n 0 t in
      let p : 0 < n = omega arith in
      by_test (ltb 99999 n) (λ u. rw (cell_large (ltb-true 99999 n u)) b)
      (λ u. let h : n ≤ 99999 = ltb-false 99999 n u in rw (cell_number_lem p h) (c p h)))

module _ (line : List ℕ) (x : ℕ) where
  -- "Places beyond the grid are blank."
  pub place_beyond : length line ≤ x → place_columns line x ≡ 32 ∷ 32 ∷ 32 ∷ 32 ∷ 32 ∷ []
  unfolding place_columns right_aligned
  place_beyond h = rw (le-ltb x (length line) h)

  pub place_cell : x < length line → place_columns line x ≡ cell_columns (get_or line x 0)
  unfolding place_columns
  place_cell h = rw (lt-ltb x (length line) h)

  by_place : (P : List ℕ → Type 0) → P (32 ∷ 32 ∷ 32 ∷ 32 ∷ 32 ∷ []) → P (cell_columns (get_or line x 0)) → P (place_columns line x)
  by_place P a b = by_test (ltb x (length line)) (λ t. rw (place_cell (ltb-true x (length line) t)) b) (λ t. rw (place_beyond (ltb-false x (length line) t)) a)

-- ---- five columns, whatever the number and the place

pub columns_five : (n : ℕ) → length (cell_columns n) ≡ 5
columns_five n = by_number n (λ (l : List ℕ). length l ≡ 5) refl refl (λ p h. ap length (number_columns n p h))

pub place_five : (line : List ℕ) (x : ℕ) → length (place_columns line x) ≡ 5
place_five line x = by_place line x (λ (l : List ℕ). length l ≡ 5) refl (columns_five (get_or line x 0))

-- ---- every column has a space, a hash sign, a dot or a digit

digit_column : (d : ℕ) → d < 10 → is_column (48 + d) ≡ true
unfolding is_column
digit_column d h = rw (ne_eqb (48 + d) 32 (λ e. omega arith), ne_eqb (48 + d) 35 (λ e. omega arith), ne_eqb (48 + d) 46 (λ e. omega arith), digit_byte d h)

byte_column : (n : ℕ) → is_column (column_byte n) ≡ true
unfolding column_byte is_column
byte_column n = by_test (eqb n 0) (λ t. rw t) (λ t. rw t (digit_column (n % 10) (omega arith)))

cell_all : (n : ℕ) → all_of is_column (cell_columns n) ≡ true
unfolding is_column
cell_all n =
    by_number n (λ (l : List ℕ). all_of is_column l ≡ true) refl refl
    (λ p q. rw (number_columns n p q, byte_column (n / 10000), byte_column (n / 1000), byte_column (n / 100), byte_column (n / 10), byte_column n))

place_all : (line : List ℕ) (x : ℕ) → all_of is_column (place_columns line x) ≡ true
unfolding is_column
place_all line x = by_place line x (λ (l : List ℕ). all_of is_column l ≡ true) refl (cell_all (get_or line x 0))

pub place_column : (line : List ℕ) (x k : ℕ) → k < 5 → is_column (get_or (place_columns line x) k 0) ≡ true
place_column line x k h = all_out is_column (place_columns line x) (place_all line x) (get_or-in (place_columns line x) k (rw (place_five line x) h))

-- a blank place has spaces
pub blank_column : (k : ℕ) → k < 5 → ◌≡◌ {A = ℕ} (get_or (32 ∷ 32 ∷ 32 ∷ 32 ∷ 32 ∷ []) k 0) 32
blank_column k h = get_or-replicate 5 k 32 0 h
