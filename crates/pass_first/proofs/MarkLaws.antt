-- The passes over the cells of an order from the last one down: the largest number, and the first cells.
-- Assumes nothing.
use mathlib.Core.Path.{◌≡◌, refl, sym, ap, ◌∙◌}
use mathlib.Core.Bool.{Bool, true, false}
use mathlib.Core.List.{List, [], ◌∷◌, map, foldr, Memᴰ}
use Prim.Native.Nat.{ℕ, suc, ◌+◌, ◌-◌, ◌≤◌, ◌<◌, max}
use native.Mathlib.Nat.{mul-pos, zero-mod, zero-div}
use native.Mathlib.Numerals.{add-one}
use native.Mathlib.Omega.{arith}
use lib.Dec.{eqb}
use Rattle.std.proofs.lemmas.List.{get_or-take}
use lib.ListN.{length, get_or, take, length-take, set, length-set, length-replicate, get_or-replicate}
use lib.Seq.{get_or-set_same, get_or-set_other}
use borrow.Author.Tests.{eqb-true, eqb-false, eq-eqb, ne_eqb}
use Rattle.lists.specs.Lists.{consecutive, zeros}
use Rattle.lists.proofs.Cases.{by_test}
use Rattle.lists.proofs.Lists.{keep_out, consecutive_left}
use Rattle.cells.specs.Box.{place}
use Rattle.cells.specs.declared.Triple.{Triple}
use Rattle.cells.specs.Extents.{Sized}
use Rattle.cells.specs.Grid.{cells, parity, order, along, upper_neighbours}
use Rattle.cells.specs.Row.{row_of, row}
use Rattle.cells.proofs.ExtentLaws.{cells_are, layer_low}
use Rattle.labels.specs.Components.{of_order, largest, component, first_cell, row_at_first, component_row}
use Rattle.labels.proofs.ComponentLaws.{of_order_out}
use Rattle.pass_first.specs.Marks.{cells_from, first_from, Marks}

-- ---- the cells from p on

module _ (e : Triple) (j p : ℕ) (h : p < cells e) where
  cells_here : order e p ≡ j → cells_from e j p ≡ p ∷ cells_from e j (p + 1)
  unfolding cells_from
  cells_here o = rw (add-one p, consecutive_left p (cells e) h, eq-eqb (order e p) j o)

  cells_past : (order e p ≡ j → ⊥) → cells_from e j p ≡ cells_from e j (p + 1)
  unfolding cells_from
  cells_past o = rw (add-one p, consecutive_left p (cells e) h, ne_eqb (order e p) j o)

cells_none : (e : Triple) (j : ℕ) → cells_from e j (cells e) ≡ []
unfolding cells_from consecutive
cells_none e j = let z : cells e - cells e ≡ 0 = omega arith in rw z

cells_all : (e : Triple) (j : ℕ) → cells_from e j 0 ≡ of_order e j
unfolding cells_from of_order
cells_all e j = let z : cells e - 0 ≡ cells e = omega arith in rw z

-- ---- the largest number

-- The largest number from p on.
unfoldable pub largest_from : Triple → List ℕ → ℕ → ℕ → ℕ
largest_from e m j p = foldr max 0 (map (λ q. get_or m q 0) (cells_from e j p))

pub largest_start : (e : Triple) (m : List ℕ) (j : ℕ) → length m ≡ cells e → 0 ≡ largest_from e m j (length m)
unfolding largest_from
largest_start e m j w = rw (w, cells_none e j)

-- One cell more, where p + 1 is reached: b tells whether cell p has order j.
module _ (e : Triple) (m : List ℕ) (j p n : ℕ) (b : Bool) (h : p < cells e) (t : b ≡ eqb (order e p) j) (a : n ≡ largest_from e m j (p + 1)) where
  pub largest_past : b ≡ false → n ≡ largest_from e m j p
  unfolding largest_from
  largest_past d = a ∙ rw (cells_past e j p h (eqb-false (order e p) j (sym t ∙ d)))

  pub largest_here : b ≡ true → max (get_or m p 0) n ≡ largest_from e m j p
  unfolding largest_from
  largest_here d = rw (cells_here e j p h (eqb-true (order e p) j (sym t ∙ d)), a)

pub largest_all : (e : Triple) (m : List ℕ) (j p n : ℕ) → p ≤ 0 → n ≡ largest_from e m j p → n ≡ largest e m j
unfolding largest_from largest
largest_all e m j p n h a = let z : p ≡ 0 = omega arith in a ∙ rw (z, cells_all e j)

-- ---- the first cells

module _ (e : Triple) (m : List ℕ) (j p n : ℕ) (h : p < cells e) where
  first_past : (order e p ≡ j → ⊥) → first_from e m j p n ≡ first_from e m j (p + 1) n
  unfolding first_from
  first_past o = rw (cells_past e j p h o)

  first_here : order e p ≡ j → get_or m p 0 ≡ n → first_from e m j p n ≡ p
  unfolding first_from
  first_here o g = rw (cells_here e j p h o, eq-eqb (get_or m p 0) n g)

  first_other : order e p ≡ j → (get_or m p 0 ≡ n → ⊥) → first_from e m j p n ≡ first_from e m j (p + 1) n
  unfolding first_from
  first_other o g = rw (cells_here e j p h o, ne_eqb (get_or m p 0) n g)

pub marks_start : (e : Triple) (m : List ℕ) (j p : ℕ) (t : List ℕ) → t ≡ zeros (cells e) → p ≡ cells e → Marks e m j p t
unfolding zeros first_from
marks_start e m j p t z q = record {
  room = ap length z ∙ length-replicate (cells e) 0;
  has = λ k h. rw (z, q, cells_none e j) (get_or-replicate (cells e) k 0 0 h);
}

-- b tells whether cell p has order j, and v is its number
module _ (e : Triple) (m : List ℕ) (j p : ℕ) (b : Bool) (t : List ℕ) (h : p < cells e) (a : Marks e m j (p + 1) t) (q : b ≡ eqb (order e p) j) where
  pub marks_past : b ≡ false → Marks e m j p t
  marks_past d = record { room = a.room; has = λ k i. a.has k i ∙ sym (first_past e m j p (suc k) h (eqb-false (order e p) j (sym q ∙ d))) }

  module _ (d : b ≡ true) (v : ℕ) (g : v ≡ get_or m p 0) where
    here : order e p ≡ j
    here = eqb-true (order e p) j (sym q ∙ d)

    -- a number that has no place
    pub marks_none : v ≡ 0 → Marks e m j p t
    marks_none z = record { room = a.room; has = λ k i. a.has k i ∙ sym (first_other e m j p (suc k) h here (λ r. omega arith)) }

    pub marks_beyond : length t < v → Marks e m j p t
    marks_beyond z = record { room = a.room; has = λ k i. a.has k i ∙ sym (first_other e m j p (suc k) h here (λ r. omega (arith, a.room))) }

    pub marks_set : (v ≡ 0 → ⊥) → v ≤ length t → Marks e m j p (set t (v - 1) p)
    marks_set z r = record {
      room = length-set t (v - 1) p ∙ a.room;
      has = λ k i. by_test (eqb v (suc k))
          (λ b. let f : v ≡ suc k = eqb-true v (suc k) b in
          let s : v - 1 ≡ k = omega arith in
          rw s (get_or-set_same t k p 0 (omega (arith, a.room)) ∙ sym (first_here e m j p (suc k) h here (sym g ∙ f))))
          (λ b. let f = eqb-false v (suc k) b in
          get_or-set_other t (v - 1) k p 0 (λ r. f (omega arith)) ∙ a.has k i ∙ sym (first_other e m j p (suc k) h here (λ r. f (g ∙ r))));
    }

-- what the marks from the first cell on are
marked : (e : Triple) (m : List ℕ) (j i : ℕ) (t : List ℕ) → Marks e m j 0 t → i < cells e → get_or t i 0 ≡ first_cell e m j (i + 1)
unfolding first_from first_cell component
marked e m j i t a h = a.has i h ∙ rw (cells_all e j, add-one i)

-- the first n marks are read at place i
pub mark_read : (e : Triple) (m : List ℕ) (j i n : ℕ) (t : List ℕ) → Marks e m j 0 t → i < length (take n t) → get_or (take n t) i 0 ≡ first_cell e m j (i + 1)
mark_read e m j i n t a h =
    get_or-take n t i 0 (omega (arith, length-take n t)) ∙ marked e m j i t a (omega (arith, length-take n t, a.room))

-- ---- the first cell and its row

cells_low : {e : Triple} → Sized 8 e → 0 < cells e
cells_low {e} s = rw (cells_are e) (mul-pos (layer_low s) (omega (arith, s.z_low)))

first_below : (l : List ℕ) (n : ℕ) → 0 < n → ((q : ℕ) → Memᴰ q l → q < n) → get_or l 0 0 < n
first_below [] n z f = z
first_below (x ∷ l) n z f = f x (Memᴰ.head refl)

pub first_inside : {e : Triple} (m : List ℕ) (j n : ℕ) → Sized 8 e → first_cell e m j n < cells e
unfolding first_cell component
first_inside {e} m j n s =
    first_below (component e m j n) (cells e) (cells_low s) (λ q k. (of_order_out e j (keep_out (λ p. eqb (get_or m p 0) n) (of_order e j) k).0).0)

-- position 0 is a voxel, which has no upper neighbours
row_zero : (e : Triple) (m : List ℕ) → row_of [] ≡ row e m 0
unfolding row upper_neighbours parity place along
row_zero e m = simp (zero-mod, zero-div)

pub row_first : (e : Triple) (m : List ℕ) (j n : ℕ) → row e m (first_cell e m j n) ≡ component_row e m j n
unfolding first_cell component_row row_at_first
row_first e m j n = go (component e m j n)
  where
    go : (l : List ℕ) → row e m (get_or l 0 0) ≡ row_at_first e m l
    go [] = sym (row_zero e m)
    go (p ∷ l) = refl
