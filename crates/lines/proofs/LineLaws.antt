-- The odd axes of a cell and of its upper neighbours, and the orders along a line.
-- Assumes nothing.
use mathlib.Core.Path.{◌≡◌, refl, sym, ap, ap₂, ◌∙◌}
use mathlib.Core.Logic.{◌⊎◌, inl, inr, ◌≢◌}
use mathlib.Core.Bool.{Bool, cond}
use mathlib.Core.List.{List, [], ◌∷◌, ◌++◌, Memᴰ, map, append_assoc, append-nil, head-eq_of_cons-eq, tail-eq_of_cons-eq}
use Prim.Native.Nat.{ℕ, zero, suc, ◌+◌, ◌-◌, ◌*◌, ◌/◌, ◌%◌, ◌≤◌, ◌<◌}
use native.Mathlib.Nat.{mul-le-mul, mul-le-mul_right, div-div-eq-div-mul}
use native.Mathlib.Omega.{arith}
use lib.ListN.{length, get_or, length-append}
use lib.Arith.{digits_lt, digits_div, digits_mod}
use lib.Dec.{eqb, ltb}
use borrow.Author.Tests.{eqb-true, eqb-false, eq-eqb, ne_eqb, ltb-true, ltb-false}
use Rattle.lists.specs.Lists.{consecutive, keep}
use Rattle.lists.proofs.Cases.{by_test, picked}
use Rattle.lists.proofs.Lists.{consecutive_split}
use Rattle.cells.specs.Box.{triple, coord, stride, volume, index, place}
use Rattle.cells.specs.declared.Axis.{Axis}
use Rattle.cells.specs.declared.Axis.TheVariants.{X, Y, Z}
use Rattle.cells.specs.declared.Triple.{Triple}
use Rattle.cells.specs.Extents.{Sized}
use Rattle.cells.specs.Grid.{sides, cells, parity, order, along, upper_neighbours}
use Rattle.cells.proofs.BoxLaws.{index_place, raised, lowered, index_raised, index_lowered}
use Rattle.cells.proofs.GridLaws.{odd_at, inside, low_side, high_side, raised_inside, lowered_inside, axis_down, axis_up}
use Rattle.cells.specs.Row.{row_of, row}
use Rattle.cells.specs.Steps.{steps_of, pattern, moved}
use Rattle.cells.proofs.StepLaws.{up_steps}
use Rattle.lines.specs.Lines.{stride_if, odds, around, line_count, line_y, line_z, first_x, first_stride, last_stride, Strided, one, two, three}

-- ---- odd axes

-- the upper neighbours are those one stride away along the odd axes
around_append : (p : ℕ) (ts us : List ℕ) → around p (ts ++ us) ≡ around p ts ++ around p us
unfolding around
around_append p [] us = refl
around_append p (s ∷ ts) us = rw (around_append p ts us)

along_around : (k p s : ℕ) → along k p s ≡ around p (stride_if k s)
unfolding along around stride_if
along_around zero p s = refl
along_around (suc k) p s = refl

pub up_around : (e : Triple) (p : ℕ) → upper_neighbours e p ≡ around p (odds e p)
unfolding upper_neighbours odds
up_around e p =
    let s = sides e in
    rw (around_append, around_append, along_around (parity e p X) p (stride s X), along_around (parity e p Y) p (stride s Y), along_around (parity e p Z) p (stride s Z))

-- So the cells one stride down and up along the odd axes are those that the row of the table for the cell's pattern leads to: the table of
-- neighbour steps is the one place where steps are said.
pub around_steps : (e : Triple) (p : ℕ) → around p (odds e p) ≡ map (moved (stride (sides e) Y) (stride (sides e) Z) p) (steps_of (pattern e p))
around_steps e p = sym (up_around e p) ∙ up_steps e p

-- the axis a made even
evened : Axis → Axis → ℕ → ℕ
evened X X k = 0
evened X Y k = k
evened X Z k = k
evened Y X k = k
evened Y Y k = 0
evened Y Z k = k
evened Z X k = k
evened Z Y k = k
evened Z Z k = 0

-- one step up or down along an odd axis makes that axis even, and leaves the others
stepped_odd : (a b : Axis) (c : Triple) → 0 < coord c a % 2
    → (coord (raised a c) b % 2 ≡ evened a b (coord c b % 2)) × (coord (lowered a c) b % 2 ≡ evened a b (coord c b % 2))
unfolding raised lowered evened
stepped_odd X X c o = omega arith
stepped_odd X Y c o = (refl, refl)
stepped_odd X Z c o = (refl, refl)
stepped_odd Y X c o = (refl, refl)
stepped_odd Y Y c o = omega arith
stepped_odd Y Z c o = (refl, refl)
stepped_odd Z X c o = (refl, refl)
stepped_odd Z Y c o = (refl, refl)
stepped_odd Z Z c o = omega arith

-- The cells one stride down and up from p lie in the grid, and ss are the strides of their odd axes.
pub record Flank (e : Triple) (p s : ℕ) (ss : List ℕ) : Type 0 where
  pub low : s ≤ p
  pub high : p + s < cells e
  pub below : odds e (p - s) ≡ ss
  pub above : odds e (p + s) ≡ ss

-- the strides x, y and z of the axes that are odd
abbrev pub listed : ℕ → ℕ → ℕ → ℕ → ℕ → ℕ → List ℕ
listed kx ky kz x y z = stride_if kx x ++ stride_if ky y ++ stride_if kz z

module _ (e : Triple) where
  abbrev w : ℕ
  w = stride (sides e) Y

  abbrev wh : ℕ
  wh = stride (sides e) Z

  pub odds_are : (p kx ky kz : ℕ) → parity e p X ≡ kx → parity e p Y ≡ ky → parity e p Z ≡ kz → odds e p ≡ listed kx ky kz 1 w wh
  unfolding odds stride
  odds_are p kx ky kz x y z = rw (x, y, z)

  module _ (p : ℕ) (h : p < cells e) (a : Axis) (o : 0 < parity e p a) where
    odd_below : (b : Axis) → parity e (p - stride (sides e) a) b ≡ evened a b (parity e p b)
    unfolding parity
    odd_below b =
        let s = sides e in
        let c = place s p in
        let at : index s (lowered a c) ≡ p - stride s a = index_lowered s c a (low_side e p a o) ∙ ap (λ (n : ℕ). n - stride s a) (index_place s p) in
        ap (λ (n : ℕ). parity e n b) (sym at) ∙ odd_at e (lowered a c) (lowered_inside s c a (inside e p h)) b ∙ (stepped_odd a b c o).1

    odd_above : (b : Axis) → parity e (p + stride (sides e) a) b ≡ evened a b (parity e p b)
    unfolding parity
    odd_above b =
        let s = sides e in
        let c = place s p in
        let at : index s (raised a c) ≡ p + stride s a = index_raised s c a ∙ ap (λ (n : ℕ). n + stride s a) (index_place s p) in
        ap (λ (n : ℕ). parity e n b) (sym at) ∙ odd_at e (raised a c) (raised_inside s c a (inside e p h) (high_side e p a h o)) b ∙ (stepped_odd a b c o).0

    flank : (kx ky kz : ℕ) → parity e p X ≡ kx → parity e p Y ≡ ky → parity e p Z ≡ kz → Flank e p (stride (sides e) a) (listed (evened a X kx) (evened a Y ky) (evened a Z kz) 1 w wh)
    flank kx ky kz x y z = record {
      low = axis_down e p a o;
      high = axis_up e p a h o;
      below = odds_are (p - stride (sides e) a) _ _ _ (odd_below X ∙ ap (evened a X) x) (odd_below Y ∙ ap (evened a Y) y) (odd_below Z ∙ ap (evened a Z) z);
      above = odds_are (p + stride (sides e) a) _ _ _ (odd_above X ∙ ap (evened a X) x) (odd_above Y ∙ ap (evened a Y) y) (odd_above Z ∙ ap (evened a Z) z);
    }

-- A stride of the list is that of the first axis, where it is odd, or one of the rest.
record First (k t : ℕ) (rest pre : List ℕ) (s : ℕ) (post : List ℕ) : Type 0 where
  is_odd : 0 < k
  is : t ≡ s
  others : rest ≡ pre ++ post

record InRest (k t : ℕ) (rest pre : List ℕ) (s : ℕ) (post : List ℕ) : Type 0 where
  front : List ℕ
  before : pre ≡ stride_if k t ++ front
  split : rest ≡ front ++ s ∷ post

first_or_rest : (k t : ℕ) (rest pre : List ℕ) (s : ℕ) (post : List ℕ) → stride_if k t ++ rest ≡ pre ++ s ∷ post → First k t rest pre s post ⊎ InRest k t rest pre s post
unfolding stride_if
first_or_rest zero t rest pre s post q = inr (record { front = pre; before = refl; split = q })
first_or_rest (suc k) t rest [] s post q = inl (record { is_odd = omega arith; is = head-eq_of_cons-eq q; others = tail-eq_of_cons-eq q })
first_or_rest (suc k) t rest (x ∷ pre) s post q =
    inr (record { front = pre; before = ap (λ (n : ℕ). n ∷ pre) (sym (head-eq_of_cons-eq q)); split = tail-eq_of_cons-eq q })

-- Along any of its odd axes a cell has such neighbours, and they keep its other odd axes.
pub flank_at : (e : Triple) (p : ℕ) → p < cells e → (pre : List ℕ) (s : ℕ) (post : List ℕ) → odds e p ≡ pre ++ s ∷ post → Flank e p s (pre ++ post)
unfolding evened stride_if stride
flank_at e p h pre s post q = on_x (first_or_rest kx 1 (stride_if ky (w e) ++ stride_if kz (wh e)) pre s post (sym (append_assoc (stride_if kx 1) (stride_if ky (w e)) (stride_if kz (wh e))) ∙ sym (odds_are e p kx ky kz refl refl refl) ∙ q))
  where
    kx : ℕ
    kx = parity e p X

    ky : ℕ
    ky = parity e p Y

    kz : ℕ
    kz = parity e p Z

    on_z : (f g : List ℕ) → pre ≡ stride_if kx 1 ++ f → f ≡ stride_if ky (w e) ++ g → First kz (wh e) [] g s post ⊎ InRest kz (wh e) [] g s post → Flank e p s (pre ++ post)
    on_z f g x y (inl r) =
        let same : pre ++ post ≡ listed kx ky 0 1 (w e) (wh e) =
        ap (λ (l : List ℕ). l ++ post) (x ∙ ap (λ (l : List ℕ). stride_if kx 1 ++ l) y ∙ sym (append_assoc (stride_if kx 1) (stride_if ky (w e)) g))
        ∙ append_assoc (stride_if kx 1 ++ stride_if ky (w e)) g post
        ∙ ap (λ (l : List ℕ). stride_if kx 1 ++ stride_if ky (w e) ++ l) (sym r.others) in
        rw (same, ← r.is) (flank e p h Z r.is_odd kx ky kz refl refl refl)
    on_z f g x y (inr r) = absurd (omega (arith, simp length-append at (ap (λ (l : List ℕ). length l) r.split)))

    on_y : (f : List ℕ) → pre ≡ stride_if kx 1 ++ f → First ky (w e) (stride_if kz (wh e)) f s post ⊎ InRest ky (w e) (stride_if kz (wh e)) f s post → Flank e p s (pre ++ post)
    on_y f x (inl r) =
        let same : pre ++ post ≡ listed kx 0 kz 1 (w e) (wh e) =
        ap (λ (l : List ℕ). l ++ post) x
        ∙ append_assoc (stride_if kx 1) f post
        ∙ ap₂ {C = List ℕ} (λ l m. l ++ m) (sym (append-nil (stride_if kx 1))) (sym r.others) in
        rw (same, ← r.is) (flank e p h Y r.is_odd kx ky kz refl refl refl)
    on_y f x (inr r) = on_z f r.front x r.before (first_or_rest kz (wh e) [] r.front s post (append-nil _ ∙ r.split))

    on_x : First kx 1 (stride_if ky (w e) ++ stride_if kz (wh e)) pre s post ⊎ InRest kx 1 (stride_if ky (w e) ++ stride_if kz (wh e)) pre s post → Flank e p s (pre ++ post)
    on_x (inl r) = rw (← r.is, ← r.others) (flank e p h X r.is_odd kx ky kz refl refl refl)
    on_x (inr r) = on_y r.front r.before (first_or_rest ky (w e) (stride_if kz (wh e)) r.front s post r.split)

-- ---- lines

-- The grid is its lines, one after the other.
pub cells_lines : (e : Triple) → cells e ≡ line_count e * (sides e).x
unfolding cells volume line_count
cells_lines e = omega arith

-- How many lines there are at most.
pub lines_high : {limit : ℕ} {e : Triple} → Sized limit e → line_count e ≤ (2 * limit - 1) * (2 * limit - 1)
unfolding line_count sides
lines_high s = mul-le-mul (omega (arith, s.y_high)) (omega (arith, s.z_high))

module _ (e : Triple) (l x : ℕ) (h : x < (sides e).x) where
  -- the place of the cell at x of line l, and its parities
  pub line_place : (a : Axis) → coord (place (sides e) (l * (sides e).x + x)) a ≡ coord (triple x (l % (sides e).y) (l / (sides e).y)) a
  unfolding place
  line_place X = digits_mod l h
  line_place Y = ap (λ (n : ℕ). n % (sides e).y) (digits_div l h)
  line_place Z = sym (div-div-eq-div-mul (l * (sides e).x + x) (sides e).x (sides e).y) ∙ ap (λ (n : ℕ). n / (sides e).y) (digits_div l h)

  pub line_x : parity e (l * (sides e).x + x) X ≡ x % 2
  unfolding parity
  line_x = ap (λ (n : ℕ). n % 2) (line_place X)

  pub line_y_lem : parity e (l * (sides e).x + x) Y ≡ line_y e l
  unfolding parity line_y
  line_y_lem = ap (λ (n : ℕ). n % 2) (line_place Y)

  pub line_z_lem : parity e (l * (sides e).x + x) Z ≡ line_z e l
  unfolding parity line_z
  line_z_lem = ap (λ (n : ℕ). n % 2) (line_place Z)

  pub line_order : order e (l * (sides e).x + x) ≡ 3 - (x % 2 + line_y e l + line_z e l)
  unfolding order
  line_order = rw (line_x, line_y_lem, line_z_lem)

  pub line_inside : l < line_count e → l * (sides e).x + x < cells e
  line_inside k = rw (cells_lines e) (digits_lt k h)

line_most : (e : Triple) (l x : ℕ) → x % 2 + (line_y e l + line_z e l) ≤ 3
unfolding line_y line_z
line_most e l x = omega arith

-- The cells from line l on are those of line l, and those from the next line on.
pub next_line : (e : Triple) (l : ℕ) → l < line_count e → consecutive (l * (sides e).x) (cells e - l * (sides e).x)
    ≡ consecutive (l * (sides e).x) (sides e).x ++ consecutive ((l + 1) * (sides e).x) (cells e - (l + 1) * (sides e).x)
next_line e l h =
    let w = (sides e).x in
    let m : (l + 1) * w ≤ line_count e * w = mul-le-mul_right w (omega arith) in
    let r : cells e - l * w ≡ w + (cells e - (l + 1) * w) = omega (arith, cells_lines e) in
    let s : l * w + w ≡ (l + 1) * w = omega arith in
    rw (r, consecutive_split (l * w) w (cells e - (l + 1) * w), s)

-- ---- the cells of a line that pass a test which counts odd axes

-- The test passes at x of a line where x and q make n odd axes.
pub record Tests (f : ℕ → Bool) (base w n q : ℕ) : Type 0 where
  pub at : (x : ℕ) → x < w → f (base + x) ≡ eqb n (x % 2 + q)

module _ {f : ℕ → Bool} {base w n q : ℕ} (T : Tests f base w n q) where
  skip : (x : ℕ) → (x < w → n ≢ x % 2 + q) → keep f (consecutive (base + x) (w - x)) ≡ keep f (consecutive (base + suc x) (w - suc x))
  unfolding consecutive
  skip x d =
      by_test (ltb x w)
      (λ t.
      let h : x < w = ltb-true x w t in
      let r : w - x ≡ suc (w - suc x) = omega arith in
      let s : suc (base + x) ≡ base + suc x = omega arith in
      rw (r, T.at x h, ne_eqb n (x % 2 + q) (d h), s))
      (λ t.
      let g : w ≤ x = ltb-false x w t in
      let r : w - x ≡ 0 = omega arith in
      let s : w - suc x ≡ 0 = omega arith in
      rw (r, s))

  pub line_end : (x : ℕ) → w ≤ x → keep f (consecutive (base + x) (w - x)) ≡ []
  unfolding consecutive
  line_end x h = let r : w - x ≡ 0 = omega arith in rw r

  none_pass : ((x : ℕ) → n ≢ x % 2 + q) → (k x : ℕ) → w ≤ x + k → keep f (consecutive (base + x) (w - x)) ≡ []
  none_pass d zero x h = line_end x (omega arith)
  none_pass d (suc k) x h = skip x (λ _. d x) ∙ none_pass d k (suc x) (omega arith)

  -- The first cell that passes.
  pub line_start : keep f (consecutive base w) ≡ keep f (consecutive (base + first_x n q w) (w - first_x n q w))
  unfolding first_x
  line_start =
      let z : base + 0 ≡ base = omega arith in
      let v : w - 0 ≡ w = omega arith in
      by_test (eqb n q) (λ t. rw (t, z, v))
      (λ t.
      let d : n ≢ q = eqb-false n q t in
      by_test (eqb n (suc q))
      (λ u. rw (t, u) (rw (z, v) at (skip 0 (λ _ c. d (c ∙ omega arith)))))
      (λ u.
      let g : n ≢ suc q = eqb-false n (suc q) u in
      let far : (x : ℕ) → n ≢ x % 2 + q = λ x c. by_test (eqb (x % 2) 0) (λ a. d (omega (arith, eqb-true (x % 2) 0 a))) (λ a. let b : x % 2 ≢ 0 = eqb-false (x % 2) 0 a in g (omega arith)) in
      rw (t, u) ((rw (z, v) at (none_pass far w 0 (omega arith))) ∙ sym (line_end w (omega arith)))))

  -- A cell that passes, and the next one, two further on.
  pub line_next : (x : ℕ) → x < w → n ≡ x % 2 + q → keep f (consecutive (base + x) (w - x)) ≡ (base + x) ∷ keep f (consecutive (base + (x + 2)) (w - (x + 2)))
  unfolding consecutive
  line_next x h e =
      let r : w - x ≡ suc (w - suc x) = omega arith in
      let s : suc (base + x) ≡ base + suc x = omega arith in
      let i : suc (suc x) ≡ x + 2 = omega arith in
      rw (r, T.at x h, eq-eqb n (x % 2 + q) e, s, skip (suc x) (λ _ d. omega arith), i)

-- The first cell of a line is at its end at the latest.
pub first_within : (n q w : ℕ) → 0 < w → first_x n q w ≤ w
unfolding first_x
first_within n q w h =
    by_test (eqb n q) (λ t. rw t (omega arith)) (λ t. rw t (by_test (eqb n (suc q)) (λ u. rw u (omega arith)) (λ u. rw u (omega arith))))

-- Each cell at an even distance from the first one, s, has n odd axes.
pub line_odd : (n q w : ℕ) {s x : ℕ} → s ≡ first_x n q w → s ≤ x → x % 2 ≡ s % 2 → x < w → (s ≡ x % 2) × (n ≡ x % 2 + q)
unfolding first_x
line_odd n q w {s} {x} e l o h =
    let P : ℕ → Type 0 = λ t. s ≡ t → (s ≡ x % 2) × (n ≡ x % 2 + q) in
    picked P (eqb n q) 0 (cond (eqb n (suc q)) 1 w) (λ t i. omega (arith, eqb-true n q t))
    (λ _. picked P (eqb n (suc q)) 1 w (λ t i. omega (arith, eqb-true n (suc q) t)) (λ _ i. absurd (omega arith))) e

-- A test for the order o of a cell, as one for its odd axes k, of which there are at most 3.
pub order_odd : (o j k : ℕ) → j ≤ 3 → k ≤ 3 → o ≡ 3 - k → eqb o j ≡ eqb (3 - j) k
order_odd o j k h i e =
    by_test (eqb (3 - j) k)
    (λ t. let d : 3 - j ≡ k = eqb-true (3 - j) k t in rw t (eq-eqb o j (omega arith)))
    (λ t. let d : 3 - j ≢ k = eqb-false (3 - j) k t in rw t (ne_eqb o j (λ g. omega arith)))

-- The test for one order, along a line.
pub order_tests : (e : Triple) (j l : ℕ) → j ≤ 3 → Tests (λ p. eqb (order e p) j) (l * (sides e).x) (sides e).x (3 - j) (line_y e l + line_z e l)
order_tests e j l h = record {
  at = λ x k. order_odd (order e (l * (sides e).x + x)) j (x % 2 + (line_y e l + line_z e l)) h (line_most e l x) (line_order e l x k ∙ omega arith);
}

-- ---- strides

data Bit : ℕ → Type 0 where
  off : Bit 0
  on : Bit 1

bit : (k : ℕ) → k < 2 → Bit k
bit zero h = off
bit (suc zero) h = on
bit (suc (suc k)) h = absurd (omega arith)

strided : (e : Triple) (p : ℕ) {kx ky kz : ℕ} → Bit kx → Bit ky → Bit kz → odds e p ≡ listed kx ky kz 1 (stride (sides e) Y) (stride (sides e) Z) → 0 < kx + ky + kz
    → Strided e p (kx + ky + kz) (first_stride kx ky (stride (sides e) Y) (stride (sides e) Z)) (stride (sides e) Y) (last_stride kz (stride (sides e) Y) (stride (sides e) Z))
unfolding stride_if first_stride last_stride
strided e p off off off o n = absurd (omega arith)
strided e p on off off o n = one o
strided e p off on off o n = one o
strided e p off off on o n = one o
strided e p on on off o n = two o
strided e p on off on o n = two o
strided e p off on on o n = two o
strided e p on on on o n = three o

-- The strides of the cell at x of line l, where n axes are odd.
pub line_strides : (e : Triple) (l x n : ℕ) → x < (sides e).x → 0 < n → n ≡ x % 2 + (line_y e l + line_z e l)
    → Strided e (l * (sides e).x + x) n (first_stride (x % 2) (line_y e l) (stride (sides e) Y) (stride (sides e) Z)) (stride (sides e) Y) (last_stride (line_z e l) (stride (sides e) Y) (stride (sides e) Z))
unfolding line_y line_z
line_strides e l x n h g i =
    let p = l * (sides e).x + x in
    let k : n ≡ x % 2 + line_y e l + line_z e l = omega arith in
    rw k
    (strided e p (bit (x % 2) (omega arith)) (bit (line_y e l) (omega arith)) (bit (line_z e l) (omega arith))
    (odds_are e p (x % 2) (line_y e l) (line_z e l) (line_x e l x h) (line_y_lem e l x h) (line_z_lem e l x h)) (omega arith))

-- The strides that the rows of cells are read by, n of them.
unfoldable pub strides_by : ℕ → ℕ → ℕ → ℕ → List ℕ
strides_by n a w b = cond (eqb n 1) (a ∷ []) (cond (eqb n 2) (a ∷ b ∷ []) (a ∷ w ∷ b ∷ []))

-- They are what the table says for the cell's pattern.
pub strides_steps : (e : Triple) (p n a w b : ℕ) → Strided e p n a w b
    → around p (strides_by n a w b) ≡ map (moved (stride (sides e) Y) (stride (sides e) Z) p) (steps_of (pattern e p))
unfolding strides_by
strides_steps e p n a w b (one o) = ap (around p) (sym o) ∙ around_steps e p
strides_steps e p n a w b (two o) = ap (around p) (sym o) ∙ around_steps e p
strides_steps e p n a w b (three o) = ap (around p) (sym o) ∙ around_steps e p

-- ---- rows

-- The row of a cell, by the strides of its odd axes.
pub row_odds : (e : Triple) (m : List ℕ) (p : ℕ) (ss : List ℕ) → odds e p ≡ ss → row e m p ≡ row_of (map (λ q. get_or m q 0) (around p ss))
unfolding row
row_odds e m p ss o = rw (up_around e p, o)

-- Where the numbers one stride down and up are read.
pub record Reads (m : List ℕ) (p s : ℕ) : Type 0 where
  pub low : s ≤ p
  pub here : p < length m
  pub high : p + s < length m

pub reads : (e : Triple) (m : List ℕ) (p : ℕ) → length m ≡ cells e → p < cells e → (pre : List ℕ) (s : ℕ) (post : List ℕ) → odds e p ≡ pre ++ s ∷ post → Reads m p s
reads e m p k h pre s post o = let f = flank_at e p h pre s post o in record { low = f.low; here = omega arith; high = omega (arith, f.high) }

-- A list, split at one of its members.
odd_split : {s : ℕ} {ss : List ℕ} → Memᴰ s ss → (pre : List ℕ) × (post : List ℕ) × (ss ≡ pre ++ s ∷ post)
odd_split (Memᴰ.head {x} {xs} i) = ([], xs, ap (λ (n : ℕ). n ∷ xs) (sym i))
odd_split (Memᴰ.tail {x} m) = let r = odd_split m in (x ∷ r.0, r.1, ap {B = List ℕ} (λ ns. x ∷ ns) r.2)

-- .. for any of the strides, in a list with n places, one for each cell.
module _ (e : Triple) {p s : ℕ} {ss : List ℕ} (h : p < cells e) (o : odds e p ≡ ss) (m : Memᴰ s ss) where
  pub below_read : s ≤ p
  below_read = let r = odd_split m in (flank_at e p h r.0 s r.1 (o ∙ r.2)).low

  pub above_read : {n : ℕ} → n ≡ cells e → p + s < n
  above_read k = let r = odd_split m in rw k (flank_at e p h r.0 s r.1 (o ∙ r.2)).high

-- The odd strides, by how many there are.
pub strided_one : {e : Triple} {p n a w b : ℕ} → Strided e p n a w b → n ≡ 1 → odds e p ≡ a ∷ []
strided_one (one o) k = o
strided_one (two o) k = absurd (omega arith)
strided_one (three o) k = absurd (omega arith)

pub strided_two : {e : Triple} {p n a w b : ℕ} → Strided e p n a w b → n ≡ 2 → odds e p ≡ a ∷ b ∷ []
strided_two (one o) k = absurd (omega arith)
strided_two (two o) k = o
strided_two (three o) k = absurd (omega arith)

pub strided_three : {e : Triple} {p n a w b : ℕ} → Strided e p n a w b → n ≢ 1 → n ≢ 2 → odds e p ≡ a ∷ w ∷ b ∷ []
strided_three (one o) k l = absurd (k refl)
strided_three (two o) k l = absurd (l refl)
strided_three (three o) k l = o
