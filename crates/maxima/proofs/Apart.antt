-- One order over the one above: where the numbers of order j + 1 all differ, every cell of order j below 3 is active, and two such cells with one row are one
-- cell. Rows are compared by sums: a row gives the sum of the cell's upper neighbours, and that sum gives the cell.
-- Assumes nothing.
use mathlib.Core.Path.{◌≡◌, refl, sym, ap, ◌∙◌}
use mathlib.Core.Bool.{true}
use mathlib.Core.Logic.{◌≢◌}
use mathlib.Core.List.{List, [], ◌∷◌, map, Memᴰ}
use Prim.Native.Nat.{ℕ, suc, ◌+◌, ◌-◌, ◌*◌, ◌≤◌, ◌<◌}
use native.Mathlib.Omega.{arith}
use lib.Dec.{eqb}
use lib.ListN.{length, get_or, length-map}
use borrow.Author.Tests.{eqb-true, eqb-false}
use Rattle.lists.proofs.Cases.{by_test}
use Rattle.cells.specs.declared.Triple.{Triple}
use Rattle.cells.specs.Grid.{cells, order, upper_neighbours}
use Rattle.cells.specs.Row.{occurrences, row, active}
use Rattle.cells.proofs.GridLaws.{Upper, upper_neighbour, length_up}
use Rattle.cells.proofs.RowFacts.{occurs_first, occurs, occurrences_renamed}
use Rattle.labels.specs.Components.{first_cell}
use Rattle.labels.proofs.ComponentLaws.{Belongs, belongs_at}
use Rattle.maxima.proofs.Sums.{sum_over, sum_told, sum_constant, StandsOnce, sum_row, row_occupied}
use Rattle.maxima.proofs.UpperLaws.{up_once, sum_apart}

-- The numbers that a map has at the cells of order i all differ. For order 3 these are the numbers at the voxels. One of them may be 0.
pub record DifferentNumbers (e : Triple) (m : List ℕ) (i : ℕ) : Type 0 where
  pub apart : (p q : ℕ) → p < cells e → q < cells e → order e p ≡ i → order e q ≡ i → get_or m p 0 ≡ get_or m q 0 → p ≡ q

-- of two different entries, which f tells apart, one has another value than 0
some_number : (f : ℕ → ℕ) (l : List ℕ) → 2 ≤ length l → ((v : ℕ) → occurrences v l ≤ 1) → ((x y : ℕ) → Memᴰ x l → Memᴰ y l → f x ≡ f y → x ≡ y)
    → (q : ℕ) × Memᴰ q l × (0 < f q)
some_number f [] h o t = absurd (omega arith)
some_number f (x ∷ []) h o t = absurd (omega arith)
some_number f (x ∷ y ∷ l) h o t =
    let at_x : Memᴰ x (x ∷ y ∷ l) = mathlib.Core.List.Memᴰ.head refl in
    let at_y : Memᴰ y (x ∷ y ∷ l) = mathlib.Core.List.Memᴰ.tail (mathlib.Core.List.Memᴰ.head refl) in
    by_test (eqb (f x) 0)
    (λ u. by_test (eqb (f y) 0)
    (λ v.
    let s : x ≡ y = t x y at_x at_y (eqb-true (f x) 0 u ∙ sym (eqb-true (f y) 0 v)) in
    absurd (omega (arith, o y, occurs_first y (y ∷ l), occurs_first y l, ap (λ (z : ℕ). occurrences y (z ∷ y ∷ l)) s)))
    (λ v. let d : f y ≢ 0 = eqb-false (f y) 0 v in (y, at_y, omega arith)))
    (λ u. let d : f x ≢ 0 = eqb-false (f x) 0 u in (x, at_x, omega arith))

-- ---- one order over the one above

module _ (e : Triple) (m : List ℕ) (j : ℕ) (lj : j < 3) (D : DifferentNumbers e m (suc j)) where
  abbrev at : ℕ → ℕ
  at q = get_or m q 0

  abbrev around : ℕ → List ℕ
  around p = upper_neighbours e p

  -- the cells of the order above
  abbrev Above : ℕ → Type 0
  Above q = (q < cells e) × (order e q ≡ suc j)

  order_above : (p q : ℕ) → p < cells e → order e p ≡ j → Memᴰ q (around p) → Above q
  order_above p q h o a = let u : Upper e p q = upper_neighbour e p h a in (u.within, u.higher ∙ ap suc o)

  -- they are told apart by their numbers
  told : (q r : ℕ) → Above q → Above r → at q ≡ at r → q ≡ r
  told q r a b s = D.apart q r a.0 b.0 a.1 b.1 s

  stands_once : (p : ℕ) → p < cells e → order e p ≡ j → StandsOnce (map at (around p))
  stands_once p h o x a d =
      let r = mathlib.Core.List.Memᴰ.of_map at (around p) a in
      let q = r.0 in
      ap (λ (y : ℕ). occurrences y (map at (around p))) (sym r.2)
      ∙ occurrences_renamed at q (around p) (λ y k. told q y (order_above p q h o r.1) (order_above p y h o k))
      ∙ omega (arith, up_once e p h q, occurs (around p) r.1)

  short : (p : ℕ) → length (map at (around p)) ≤ 6
  short p = omega (arith, length-map (around p) at, length_up e p)

  pub all_active : (p : ℕ) → p < cells e → order e p ≡ j → active e m p ≡ true
  unfolding active row
  all_active p h o =
      let r = some_number at (around p) (omega (arith, length_up e p)) (up_once e p h) (λ x y a b. told x y (order_above p x h o a) (order_above p y h o b)) in
      row_occupied (map at (around p)) (stands_once p h o) (mathlib.Core.List.Memᴰ.map at r.1) r.2

  -- ---- the place of a number, counted from that of 0

  abbrev from : ℕ
  from = first_cell e m (suc j) 0

  abbrev past : ℕ → ℕ
  past n = first_cell e m (suc j) n - from

  abbrev short_of : ℕ → ℕ
  short_of n = from - first_cell e m (suc j) n

  found : (q : ℕ) → Above q → first_cell e m (suc j) (at q) ≡ q
  found q a =
      let b : Belongs e m (suc j) (at q) (first_cell e m (suc j) (at q)) = belongs_at e m (suc j) (at q) q a.0 a.1 refl in
      told (first_cell e m (suc j) (at q)) q (b.within, b.level) a b.has

  balance : (l : List ℕ) → ((q : ℕ) → Memᴰ q l → first_cell e m (suc j) (at q) ≡ q)
      → sum_over (λ q. q) l + sum_over (λ q. short_of (at q)) l ≡ sum_over (λ q. past (at q)) l + sum_over (λ q. from) l
  balance [] h = refl
  balance (x ∷ l) h = omega (arith, h x (mathlib.Core.List.Memᴰ.head refl), balance l (λ q k. h q (mathlib.Core.List.Memᴰ.tail k)))

  row_sum : (f : ℕ → ℕ) → f 0 ≡ 0 → (p : ℕ) → p < cells e → order e p ≡ j → sum_over f (row e m p) ≡ sum_over (λ q. f (at q)) (around p)
  unfolding row
  row_sum f z p h o = sum_row f z (map at (around p)) (short p) (stands_once p h o) ∙ sum_told f at (around p)

  -- the row of a cell gives the sum of its upper neighbours
  sum_at : (p : ℕ) → p < cells e → order e p ≡ j → sum_over (λ q. q) (around p) + sum_over short_of (row e m p) ≡ sum_over past (row e m p) + (6 - 2 * j) * from
  sum_at p h o =
      omega (
        arith,
        balance (around p) (λ q k. found q (order_above p q h o k)),
        row_sum short_of (omega arith) p h o,
        row_sum past (omega arith) p h o,
        sum_constant from (around p),
        ap (λ (n : ℕ). n * from) (length_up e p ∙ ap (λ (i : ℕ). 6 - 2 * i) o),
      )

  pub row_apart : (p q : ℕ) → p < cells e → q < cells e → order e p ≡ j → order e q ≡ j → row e m p ≡ row e m q → p ≡ q
  row_apart p q h k o l s =
      sum_apart e p q h k (o ∙ sym l) (omega arith)
      (omega (arith, sum_at p h o, sum_at q k l, ap (sum_over past) s, ap (sum_over short_of) s))
