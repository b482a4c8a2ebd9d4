-- The rows that stand at the first cells, found by their positions.
-- Assumes nothing.
use mathlib.Core.Path.{◌≡◌, refl, sym, ap, ◌∙◌}
use mathlib.Core.Bool.{true, ◌&&◌}
use mathlib.Core.Logic.{◌≢◌, ◌⊎◌, inl, inr}
use mathlib.Core.List.{List, [], ◌∷◌, Memᴰ}
use Prim.Native.Nat.{ℕ, suc, ◌+◌, ◌-◌, ◌*◌, ◌/◌, ◌%◌, ◌≤◌, ◌<◌}
use native.Mathlib.Nat.{zero-mod, zero-div}
use native.Mathlib.Omega.{arith}
use lib.Dec.{eqb, leb, ltb}
use lib.ListN.{get_or, get_or-eq_default, length}
use borrow.Author.Tests.{eqb-true, eq-eqb, ne_eqb, le-leb, lt-ltb, ltb-true, ltb-false}
use Rattle.lists.specs.Lists.{overlay}
use Rattle.lists.proofs.Cases.{by_test, and_both}
use Rattle.lists.proofs.Overlay.{overlay_same}
use Rattle.cells.specs.Box.{coord, each, index, place}
use Rattle.cells.specs.declared.Axis.{Axis}
use Rattle.cells.specs.declared.Axis.TheVariants.{X, Y, Z}
use Rattle.cells.specs.declared.Triple.{Triple}
use Rattle.cells.specs.Grid.{sides, cells, parity, order}
use Rattle.cells.specs.Row.{row_of, row}
use Rattle.cells.proofs.BoxLaws.{Inside, same_triple, index_place, place_index, index_inside}
use Rattle.cells.proofs.GridLaws.{inside}
use Rattle.labels.specs.Components.{largest, component, component_row, row_at_first}
use Rattle.labels.proofs.ComponentLaws.{Belongs, component_out}
use Rattle.cutting.specs.Cutting.{Cutting}
use Rattle.joiner.specs.Job.{Face, Curve, width}
use Rattle.joiner.specs.Outcomes.{shifted, enrolled_row}
use Rattle.joiner.proofs.RowBounds.{component_row_most}
use Rattle.blocks.specs.Blocks.{origin_of, size_of, Tells, in_on, has_in, local_in, shift_in, embed_in}
use Rattle.blocks.specs.declared.Block.{Block}
use Rattle.blocks.proofs.BlockLaws.{in_low, in_high}
use Rattle.pass_enrol.specs.EnrolledRows.{Lies, position_in, first_in, shift_by, row_in, row_for}
use Rattle.pass_enrol.proofs.PlaceLaws.{shift_in_lem}

-- ---- shifted entries

-- n entries of y are those of x shifted, and the others as they were
pub all_shifted : (s n : ℕ) (x y : List ℕ) → length x ≤ n → ((i : ℕ) → i < n → get_or y i 0 ≡ shift_by s (get_or x i 0)) → ((i : ℕ) → n ≤ i → get_or y i 0 ≡ get_or x i 0)
    → (i : ℕ) → get_or y i 0 ≡ shift_by s (get_or x i 0)
unfolding shift_by
all_shifted s n x y l f g i =
    by_test (ltb i n)
    (λ t. f i (ltb-true i n t))
    (λ t. let h = ltb-false i n t in let z : get_or x i 0 ≡ 0 = get_or-eq_default x 0 (omega arith) in rw z (g i h ∙ z))

pub shift_fits : (s x : ℕ) → x < 4294967296 → (s ≡ 0) ⊎ (s + x < 4294967296) → s + x < 4294967296
shift_fits s x h (inl e) = omega arith
shift_fits s x h (inr k) = k

shift_less : (s x y : ℕ) → x ≤ y → (s ≡ 0) ⊎ (s + y < 4294967296) → (s ≡ 0) ⊎ (s + x < 4294967296)
shift_less s x y h (inl e) = inl e
shift_less s x y h (inr k) = inr (omega arith)

-- ---- a cell of the block, found by its place in the volume

module _ (r : Block) where
  has_shift : (c : Triple) → Inside (sides (size_of r)) c → has_in r (shift_in r c) ≡ true
  unfolding has_in in_on shift_in
  has_shift c i = and_both _ _ (on X) (and_both _ _ (on Y) (on Z))
    where
      on : (a : Axis) → (leb (2 * coord (origin_of r) a) (2 * coord (origin_of r) a + coord c a) && ltb (2 * coord (origin_of r) a + coord c a) (2 * coord (origin_of r) a + coord (sides (size_of r)) a)) ≡ true
      on a =
          let o : ℕ = 2 * coord (origin_of r) a in
          let low : o ≤ o + coord c a = omega arith in
          let high : o + coord c a < o + coord (sides (size_of r)) a = omega (arith, i a) in
          and_both _ _ (le-leb o (o + coord c a) low) (lt-ltb (o + coord c a) (o + coord (sides (size_of r)) a) high)

  local_shift : (c : Triple) → local_in r (shift_in r c) ≡ index (sides (size_of r)) c
  unfolding local_in shift_in
  local_shift c = ap (index (sides (size_of r))) (same_triple _ c same)
    where
      same : (a : Axis) → coord (each (λ a'. coord (shift_in r c) a' - 2 * coord (origin_of r) a')) a ≡ coord c a
      same X = omega arith
      same Y = omega arith
      same Z = omega arith

  local_inside : (c : Triple) → has_in r c ≡ true → local_in r c < cells (size_of r)
  unfolding local_in cells
  local_inside c t = index_inside (sides (size_of r)) (each (λ a. coord c a - 2 * coord (origin_of r) a)) within
    where
      within : Inside (sides (size_of r)) (each (λ a. coord c a - 2 * coord (origin_of r) a))
      within X = omega (arith, in_low r c t X, in_high r c t X)
      within Y = omega (arith, in_low r c t Y, in_high r c t Y)
      within Z = omega (arith, in_low r c t Z, in_high r c t Z)

-- q is the cell at place c of the volume
pub local_within : (r : Block) (c : Triple) (q : ℕ) → q ≡ local_in r c → has_in r c ≡ true → q < cells (size_of r)
local_within r c q e t = rw e (local_inside r c t)

place_none : (s : Triple) (a : Axis) → coord (place s 0) a ≡ 0
unfolding place
place_none s X = zero-mod s.x
place_none s Y = rw (zero-div s.x) (zero-mod s.y)
place_none s Z = zero-div (s.x * s.y)

module _ {v : Triple} {r : Block} (L : Lies v r) (p : ℕ) (h : p < cells (size_of r)) where
  abbrev spot : Triple
  spot = place (sides (size_of r)) p

  place_position : place (sides v) (position_in v r p) ≡ shift_in r spot
  unfolding position_in embed_in
  place_position = let i : Inside (sides v) (shift_in r spot) = shift_in_lem L spot (inside (size_of r) p h) in same_triple _ _ (place_index (sides v) (shift_in r spot) (i X) (i Y))

  -- only a voxel can stand at position 0
  position_some : order (size_of r) p ≤ 2 → position_in v r p ≢ 0
  unfolding order parity shift_in
  position_some o z = omega (arith, none X, none Y, none Z)
    where
      shift_none_on : (a : Axis) → coord (shift_in r spot) a ≡ 0
      shift_none_on a = ap (λ (c : Triple). coord c a) (sym place_position ∙ ap (place (sides v)) z) ∙ place_none (sides v) a

      none : (a : Axis) → coord spot a ≡ 0
      none X = omega (arith, shift_none_on X)
      none Y = omega (arith, shift_none_on Y)
      none Z = omega (arith, shift_none_on Z)

  position_has : has_in r (place (sides v) (position_in v r p)) ≡ true
  position_has = rw place_position (has_shift r spot (inside (size_of r) p h))

  position_local : local_in r (place (sides v) (position_in v r p)) ≡ p
  position_local = rw place_position (local_shift r spot ∙ index_place (sides (size_of r)) p)

-- ---- the row of a number

-- the ways of `row_for`
pub row_none : (v : Triple) (r : Block) (m : List ℕ) (p : ℕ) → p ≡ 0 → 0 ∷ 0 ∷ 0 ∷ 0 ∷ 0 ∷ 0 ∷ [] ≡ row_for v r m p
unfolding row_for row_of
row_none v r m p z = rw (eq-eqb p 0 z)

pub row_some : (v : Triple) (r : Block) (m : List ℕ) (p q : ℕ) (x : List ℕ) → p ≢ 0 → q ≡ local_in r (place (sides v) p) → x ≡ row (size_of r) m q → x ≡ row_for v r m p
unfolding row_for
row_some v r m p q x z e i = rw (ne_eqb p 0 z, ← e) i

module _ {v : Triple} {r : Block} (L : Lies v r) (m : List ℕ) (j n : ℕ) (below : j ≤ 2) where
  abbrev numbered : List ℕ
  numbered = component (size_of r) m j n

  has_first : (ps : List ℕ) → ((p : ℕ) → Memᴰ p ps → Belongs (size_of r) m j n p) → first_in v r ps ≢ 0 → has_in r (place (sides v) (first_in v r ps)) ≡ true
  unfolding first_in
  has_first [] f z = absurd (z refl)
  has_first (p ∷ ps) f z = position_has L p (f p (Memᴰ.head refl)).within

  row_first : (ps : List ℕ) → ((p : ℕ) → Memᴰ p ps → Belongs (size_of r) m j n p) → row_for v r m (first_in v r ps) ≡ row_at_first (size_of r) m ps
  unfolding first_in row_for row_at_first
  row_first [] f = refl
  row_first (p ∷ ps) f =
      let g = f p (Memᴰ.head refl) in
      rw (ne_eqb (position_in v r p) 0 (position_some L p g.within (omega (arith, g.level))), position_local L p g.within)

  -- q is the position of its first cell, and x what `row_for` answers
  module _ (q : ℕ) (is : q ≡ first_in v r numbered) where
    pub number_has : q ≢ 0 → has_in r (place (sides v) q) ≡ true
    number_has = rw is (has_first numbered (λ p d. component_out (size_of r) m j n d))

    pub number_row : (x : List ℕ) → x ≡ row_for v r m q → x ≡ component_row (size_of r) m j n
    unfolding component_row
    number_row x e = e ∙ ap (row_for v r m) is ∙ row_first numbered (λ p d. component_out (size_of r) m j n d)

    pub row_fits : (shift : ℕ) → (shift ≡ 0) ⊎ (shift + largest (size_of r) m (suc j) < 4294967296) → (x : List ℕ) → x ≡ row_for v r m q → (i : ℕ) → (shift ≡ 0) ⊎ (shift + get_or x i 0 < 4294967296)
    row_fits shift o x e i = rw (number_row x e) (shift_less shift (get_or (component_row (size_of r) m j n) i 0) (largest (size_of r) m (suc j)) (component_row_most (size_of r) m j n i) o)

-- place i of the row of number n + 1
pub row_entry_lem : (e : Triple) (shift : ℕ) (m : List ℕ) (j n : ℕ) (x y : List ℕ) → x ≡ component_row e m j (suc n) → ((i : ℕ) → get_or y i 0 ≡ shift_by shift (get_or x i 0)) → (i : ℕ) → get_or y i 0 ≡ row_in e shift m j (suc n) i
unfolding row_in shift_by
row_entry_lem e shift m j n x y q s i = s i ∙ ap (λ (l : List ℕ). shift_by shift (get_or l i 0)) q

-- ---- the joiner's rows

shift_zero : (x : ℕ) → shift_by 0 x ≡ x
unfolding shift_by
shift_zero x = by_test (eqb x 0) (λ t. rw t (sym (eqb-true x 0 t))) (λ t. rw t (omega arith))

module _ (k : Cutting) (b : ℕ) (r : Block) (T : Tells k b r) where
  pub enrolled_face : (from : ℕ) (m : List ℕ) (n i : ℕ) → row_in (size_of r) 0 m 2 n i ≡ enrolled_row k from b m Face n i
  unfolding row_in enrolled_row shifted
  enrolled_face from m n i = shift_zero (get_or (component_row (size_of r) m 2 n) i 0) ∙ ap (λ (e : Triple). get_or (component_row e m 2 n) i 0) T.size

  pub enrolled_curve : (from : ℕ) (m : List ℕ) (n i : ℕ) → row_in (size_of r) from m 1 n i ≡ enrolled_row k from b m Curve n i
  unfolding row_in enrolled_row shifted shift_by
  enrolled_curve from m n i = ap (λ (e : Triple). shift_by from (get_or (component_row e m 1 n) i 0)) T.size

  -- what `store_rows` leaves: the shift is 0 for faces, and for curves the place of the block's first face
  pub enrolled_faces : (first : ℕ) (m : List ℕ) (from count : ℕ) (xs rs : List ℕ) → rs ≡ overlay xs (2 * from) (λ i. row_in (size_of r) 0 m 2 (suc (i / 2)) (i % 2)) (2 * count)
      → rs ≡ overlay xs (width Face * from) (λ i. enrolled_row k first b m Face (suc (i / width Face)) (i % width Face)) (width Face * count)
  enrolled_faces first m from count xs rs e = e ∙ overlay_same xs (2 * from) _ _ (2 * count) (λ i _. enrolled_face first m (suc (i / 2)) (i % 2))

  pub enrolled_curves : (first : ℕ) (m : List ℕ) (from count : ℕ) (xs rs : List ℕ) → rs ≡ overlay xs (4 * from) (λ i. row_in (size_of r) first m 1 (suc (i / 4)) (i % 4)) (4 * count)
      → rs ≡ overlay xs (width Curve * from) (λ i. enrolled_row k first b m Curve (suc (i / width Curve)) (i % width Curve)) (width Curve * count)
  enrolled_curves first m from count xs rs e = e ∙ overlay_same xs (4 * from) _ _ (4 * count) (λ i _. enrolled_curve first m (suc (i / 4)) (i % 4))
