-- How many cells of each order a grid has: `cells_of_order`, for all extents. A line of 2n−1 places has n even ones and n−1 odd ones; so have the lines of a
-- layer, and the layers.
-- Assumes nothing.
use mathlib.Core.Path.{◌≡◌, ap, ◌∙◌}
use mathlib.Core.Bool.{Bool, cond}
use mathlib.Core.List.{List}
use Prim.Native.Nat.{ℕ, zero, suc, ◌+◌, ◌-◌, ◌*◌, ◌^◌, ◌%◌, ◌≤◌, ◌<◌}
use native.Mathlib.Nat.{zero-add}
use native.Mathlib.Omega.{arith}
use mathlib.Core.Logic.{◌≢◌}
use lib.Dec.{eqb}
use borrow.Author.Tests.{eqb-true, eqb-false, ne_eqb}
use lib.ListN.{length, get_or}
use Rattle.lists.specs.Lists.{consecutive}
use Rattle.lists.proofs.Cases.{by_test}
use Rattle.lists.proofs.Lists.{length-keep, length-consecutive, get_or-consecutive}
use Rattle.closure.specs.Numbered.{count_below}
use Rattle.closure.proofs.Numbers.{count_same, count_rest, keep_count}
use Rattle.cells.specs.Box.{triple, volume, index}
use Rattle.cells.specs.declared.Axis.TheVariants.{X, Y, Z}
use Rattle.cells.specs.declared.Triple.{Triple}
use Rattle.cells.specs.Extents.{Sized}
use Rattle.cells.specs.Grid.{sides, cells, order}
use Rattle.cells.proofs.BoxLaws.{Inside}
use Rattle.cells.proofs.ExtentLaws.{product_high}
use Rattle.cells.proofs.GridLaws.{order_at_lem, side_on}
use Rattle.labels.specs.Components.{of_order, component}
use Rattle.labels.specs.OrderCounts.{cells_of_order}

-- ---- a count over 2n−1 rows of w numbers, in which a row's count depends on whether its number is even or odd

module _ (p : ℕ → Bool) (w n : ℕ) (f : ℕ → ℕ) (row : (i : ℕ) → i < 2 * n - 1 → count_below (λ k. p (i * w + k)) w ≡ f (i % 2)) where
  row_more : (i : ℕ) → i < 2 * n - 1 → count_below p (suc i * w) ≡ count_below p (i * w) + f (i % 2)
  row_more i h =
      let s : suc i * w ≡ i * w + w = omega arith in
      rw s (count_rest p (i * w) w ∙ ap (λ (k : ℕ). count_below p (i * w) + k) (row i h))

  two_rows : (m : ℕ) → m < n → count_below p (2 * m * w) ≡ m * f 0 + m * f 1
  unfolding count_below
  two_rows zero h = let z : 2 * 0 * w ≡ 0 = omega arith in rw z (omega arith)
  two_rows (suc m) h =
      let a : 2 * m % 2 ≡ 0 = omega arith in
      let b : suc (2 * m) % 2 ≡ 1 = omega arith in
      let s : 2 * suc m * w ≡ suc (suc (2 * m)) * w = omega arith in
      rw s (omega (arith, two_rows m (omega arith), row_more (2 * m) (omega arith), row_more (suc (2 * m)) (omega arith), ap f a, ap f b))

  spread_rows : count_below p ((2 * n - 1) * w) ≡ n * f 0 + (n - 1) * f 1
  unfolding count_below
  spread_rows =
      by_test (eqb n 0)
      (λ t.
      let z : n ≡ 0 = eqb-true n 0 t in
      rw z (let y : (2 * 0 - 1) * w ≡ 0 = omega arith in rw y (omega arith)))
      (λ t.
      let z : n ≢ 0 = eqb-false n 0 t in
      let a : 2 * (n - 1) % 2 ≡ 0 = omega arith in
      let s : 2 * n - 1 ≡ suc (2 * (n - 1)) = omega arith in
      let k : n ≡ suc (n - 1) = omega arith in
      rw s (omega (arith, two_rows (n - 1) (omega arith), row_more (2 * (n - 1)) (omega arith), ap f a, ap (λ (i : ℕ). i * f 0) k)))

-- ---- the cells of an order, counted line by line and layer by layer

-- the position of a cell, by layer, line and place
position_of : (e : Triple) (x y z : ℕ) → z * ((2 * e.y - 1) * (2 * e.x - 1)) + (y * (2 * e.x - 1) + (x * 1 + 0)) ≡ index (sides e) (triple x y z)
unfolding index sides
position_of e x y z = omega arith

-- n of the count for s odd coordinates, and n − 1 of the count for one more
abbrev spread : ℕ → (ℕ → ℕ) → ℕ → ℕ
spread n f s = n * f (s + 0) + (n - 1) * f (s + 1)

-- 1 where a cell with s odd coordinates has order j
abbrev at_order : ℕ → ℕ → ℕ
at_order j s = cond (eqb (3 - s) j) 1 0

module _ (e : Triple) (j : ℕ) where
  abbrev test : ℕ → Bool
  test p = eqb (order e p) j

  abbrev w : ℕ
  w = 2 * e.x - 1

  abbrev h : ℕ
  h = 2 * e.y - 1

  abbrev d : ℕ
  d = 2 * e.z - 1

  count_cell : (x y z : ℕ) → x < w → y < h → z < d
      → count_below (λ k. test (z * (h * w) + (y * w + (x * 1 + k)))) 1 ≡ at_order j (0 + z % 2 + y % 2 + x % 2)
  unfolding count_below
  count_cell x y z hx hy hz =
      let o : order e (z * (h * w) + (y * w + (x * 1 + 0))) ≡ 3 - (0 + z % 2 + y % 2 + x % 2)
      = ap (order e) (position_of e x y z) ∙ order_at_lem e (triple x y z) within ∙ omega arith in
      rw o
    where
      within : Inside (sides e) (triple x y z)
      within X = rw (side_on e X) hx
      within Y = rw (side_on e Y) hy
      within Z = rw (side_on e Z) hz

  count_line : (y z : ℕ) → y < h → z < d → count_below (λ k. test (z * (h * w) + (y * w + k))) w ≡ spread e.x (at_order j) (0 + z % 2 + y % 2)
  count_line y z hy hz =
      let s : w ≡ w * 1 = omega arith in
      ap (count_below (λ k. test (z * (h * w) + (y * w + k)))) s
      ∙ spread_rows (λ k. test (z * (h * w) + (y * w + k))) 1 e.x (λ r. at_order j (0 + z % 2 + y % 2 + r)) (λ x hx. count_cell x y z hx hy hz)

  count_layer : (z : ℕ) → z < d → count_below (λ k. test (z * (h * w) + k)) (h * w) ≡ spread e.y (spread e.x (at_order j)) (0 + z % 2)
  count_layer z hz = spread_rows (λ k. test (z * (h * w) + k)) w e.y (λ r. spread e.x (at_order j) (0 + z % 2 + r)) (λ y hy. count_line y z hy hz)

  count_grid : count_below test (cells e) ≡ spread e.z (spread e.y (spread e.x (at_order j))) 0
  unfolding cells volume sides
  count_grid =
      let s : w * h * d ≡ d * (h * w) = omega arith in
      ap (count_below test) s ∙ spread_rows test (h * w) e.z (λ r. spread e.y (spread e.x (at_order j)) (0 + r)) count_layer

-- the three spreads multiplied out
multiplied : (e : Triple) (j : ℕ) → spread e.z (spread e.y (spread e.x (at_order j))) 0 ≡ cells_of_order e j
unfolding cells_of_order
multiplied e zero = omega arith
multiplied e (suc zero) = omega arith
multiplied e (suc (suc zero)) = omega arith
multiplied e (suc (suc (suc zero))) = omega arith
multiplied e (suc (suc (suc (suc j)))) = simp none (omega arith)
  where
    none : (s : ℕ) → at_order (suc (suc (suc (suc j)))) s ≡ 0
    none s = rw (ne_eqb (3 - s) (suc (suc (suc (suc j)))) (omega arith))

-- ---- the number of cells of an order

-- "The number of face cells .. and likewise of curve and of point cells", for all extents and every order: as a count of cells, and as the length of their list.
pub count_cells : (e : Triple) (j : ℕ) → count_below (λ p. eqb (order e p) j) (cells e) ≡ cells_of_order e j
count_cells e j = count_grid e j ∙ multiplied e j

pub count_order : (e : Triple) (j : ℕ) → length (of_order e j) ≡ cells_of_order e j
unfolding of_order
count_order e j =
    let n = cells e in
    let l = consecutive 0 n in
    let same : count_below (λ i. eqb (order e (get_or l i 0)) j) n ≡ count_below (λ p. eqb (order e p) j) n
    = count_same (λ i. eqb (order e (get_or l i 0)) j) (λ p. eqb (order e p) j) n (λ i h. ap (λ (p : ℕ). eqb (order e p) j) (get_or-consecutive 0 n i h ∙ zero-add i)) in
    keep_count (λ p. eqb (order e p) j) l ∙ ap (count_below (λ i. eqb (order e (get_or l i 0)) j)) (length-consecutive 0 n) ∙ same ∙ count_cells e j

-- ---- bounds: the cells of one order, and so those of one component, are fewer than 2^32 in the largest volume (all its cells are more)

formula_high : (limit : ℕ) (e : Triple) → Sized limit e → (j : ℕ) → cells_of_order e j ≤ 3 * (limit * limit * limit)
unfolding cells_of_order
formula_high limit e s = high
  where
    x : e.x - 1 ≤ limit
    x = omega (arith, s.x_high)

    y : e.y - 1 ≤ limit
    y = omega (arith, s.y_high)

    z : e.z - 1 ≤ limit
    z = omega (arith, s.z_high)

    most : (a b c : ℕ) → a ≤ limit → b ≤ limit → c ≤ limit → a * b * c ≤ limit * limit * limit
    most = product_high limit

    high : (j : ℕ) → cells_of_order e j ≤ 3 * (limit * limit * limit)
    high zero = omega (arith, most (e.x - 1) (e.y - 1) (e.z - 1) x y z)
    high (suc zero) =
        omega (
          arith,
          most e.x (e.y - 1) (e.z - 1) s.x_high y z,
          most (e.x - 1) e.y (e.z - 1) x s.y_high z,
          most (e.x - 1) (e.y - 1) e.z x y s.z_high,
        )
    high (suc (suc zero)) =
        omega (
          arith,
          most (e.x - 1) e.y e.z x s.y_high s.z_high,
          most e.x (e.y - 1) e.z s.x_high y s.z_high,
          most e.x e.y (e.z - 1) s.x_high s.y_high z,
        )
    high (suc (suc (suc zero))) = omega (arith, most e.x e.y e.z s.x_high s.y_high s.z_high)
    high (suc (suc (suc (suc j)))) = omega arith

pub order_cells_high : (limit : ℕ) (e : Triple) → Sized limit e → (j : ℕ) → length (of_order e j) ≤ 3 * (limit * limit * limit)
order_cells_high limit e s j = omega (arith, count_order e j, formula_high limit e s j)

pub component_cells_fit : (e : Triple) (m : List ℕ) (j n : ℕ) → Sized 1024 e → length (component e m j n) < 2 ^ 32
unfolding component
component_cells_fit e m j n s =
    let h : length (of_order e j) ≤ 3221225472 = order_cells_high 1024 e s j in
    omega (arith, length-keep (λ p. eqb (get_or m p 0) n) (of_order e j))
