-- The laws of the passes, one for each way through their code.
-- Assumes nothing.
use mathlib.Core.Path.{◌≡◌, refl, sym, ap, ◌∙◌, subst}
use mathlib.Core.Bool.{Bool, true, false, not}
use mathlib.Core.Logic.{◌≢◌}
use mathlib.Core.List.{List, [], ◌∷◌, ◌++◌, append-nil}
use Prim.Native.Nat.{ℕ, zero, suc, ◌+◌, ◌-◌, ◌*◌, ◌/◌, ◌%◌, ◌≤◌, ◌<◌, min, max}
use native.Mathlib.Nat.{mul-le-mul, mul_comm, div-lt_iff_lt-mul, mod-lt}
use native.Mathlib.Omega.{arith}
use lib.Dec.{eqb, ltb}
use lib.ListN.{get_or, length}
use lib.Ieee.{Float}
use borrow.Author.Tests.{eq-eqb, ne_eqb, ltb-true, ltb-false, not-true, not-false}
use Rattle.lists.proofs.Cases.{by_test}
use Rattle.cells.specs.Box.{triple, stride, volume, place}
use Rattle.cells.specs.declared.Axis.TheVariants.{Y, Z}
use Rattle.cells.specs.declared.Triple.{Triple}
use Rattle.cells.specs.Extents.{Sized}
use Rattle.cells.specs.Grid.{sides, order, voxel}
use Rattle.cells.specs.Row.{pad_to, row_of, row}
use Rattle.cells.proofs.BoxLaws.{same_triple}
use Rattle.cells.proofs.RowFacts.{row_alike}
use Rattle.cells.proofs.GridLaws.{voxel_inside}
use Rattle.cells.proofs.ExtentLaws.{layer_high, area_high}
use Rattle.lines.specs.Lines.{odds, around, line_count, line_y, line_z, first_stride, LineAt}
use Rattle.lines.specs.declared.Line.{Line}
use Rattle.lines.proofs.LineLaws.{up_around, row_odds, Reads, reads, Tests, line_odd, line_place, line_strides, strided_one, order_tests}
use Rattle.lines.proofs.WalkLaws.{ahead, walk_even, walk_inside, cells_first, cells_next, cells_last}
use Rattle.pass_point.specs.FoundPoints.{final_in}
use Rattle.pass_survey.specs.Survey.{on_line}
use Rattle.pass_survey.proofs.SurveyLaws.{from_line}
use Rattle.strains.specs.declared.Reading.{Reading}
use Rattle.totals.specs.Totals.{Taken, slot_of, after, sums_with, counts_with, reading_at}
use Rattle.lowest.specs.Lowest.{starts_by}
use Rattle.strain_calls.specs.Adding.{gathered, voxel_taken, face_taken}
use Rattle.pass_strain.specs.BlockReadings.{Brought, brought, face_at, own_face, cell_taken, block_taken, Whole, Lies, Beside, side_number, side_of, Sided, side_taken, OwnFace, Skips}
use Rattle.pass_strain.specs.declared.FaceLine.{FaceLine}
use Rattle.pass_strain.specs.declared.FaceSide.{FaceSide}
use Rattle.pass_strain.specs.declared.FaceSide.TheVariants.{Lower, Higher}
use Rattle.std.proofs.Common.{Option, Some, None}
use Rattle.pass_strain.proofs.TakenLaws.{after_append, after_next, after_none, after_lines, after_line, after_last}
use Rattle.pass_strain.proofs.VoxelLaws.{voxels_beside}

-- ---- one voxel

module _ (low high u : ℕ) where
  side_none : u ≡ 0 → side_of low high u ≡ 2
  unfolding side_of
  side_none e = rw (eq-eqb u 0 e) refl

  side_low : u ≢ 0 → u ≡ low → side_of low high u ≡ 0
  unfolding side_of
  side_low z e = rw (ne_eqb u 0 z, eq-eqb u low e) refl

  side_high : u ≢ 0 → u ≢ low → u ≡ high → side_of low high u ≡ 1
  unfolding side_of
  side_high z l e = rw (ne_eqb u 0 z, ne_eqb u low l, eq-eqb u high e) refl

-- At a cell without a row it is on neither.
side_blank : (u : ℕ) → side_of 0 0 u ≡ 2
unfolding side_of
side_blank u = by_test (eqb u 0) (λ z. rw z refl) (λ z. rw z refl)

-- What a voxel's reading adds, by its side.
on_side_lem : (n low high u : ℕ) (x : Reading) → voxel_taken n low high u x ≡ side_taken n (side_of low high u) x
unfolding voxel_taken side_taken side_of
on_side_lem n low high u x =
    by_test (eqb u 0) (λ z. rw z refl)
    (λ z. by_test (eqb u low) (λ t. rw (z, t) refl) (λ t. by_test (eqb u high) (λ w. rw (z, t, w) refl) (λ w. rw (z, t, w) refl)))

module _ {A : Type 0} (step : A → Taken → A) (n : ℕ) (x : Reading) where
  side_known : (s : FaceSide) → side_taken n (side_number (Some s)) x ≡ record { slot = 2 * (n - 1) + side_number (Some s); reading = x } ∷ []
  unfolding side_taken slot_of
  side_known Lower = refl
  side_known Higher = refl

  pub side_after : (xs now : A) (y : Reading) (o : Option FaceSide) (s : FaceSide) (tag : ℕ) → o ≡ Some s → tag ≡ side_number (Some s) → y ≡ x
      → now ≡ step xs (record { slot = 2 * (n - 1) + tag; reading = y }) → now ≡ after step xs (side_taken n (side_number o) x)
  unfolding after
  side_after xs now y o s tag e k f g = rw (e, side_known s, ← k, ← f) g

  pub neither_after : (xs : A) (o : Option FaceSide) → o ≡ None → xs ≡ after step xs (side_taken n (side_number o) x)
  unfolding after side_taken
  neither_after xs o e = rw e refl

-- ---- the sides of the two voxels of a face cell, by the first two numbers of its row

module _ (u w : ℕ) (r : Option FaceSide × Option FaceSide) where
  by_row : (low high : ℕ) → low ≡ get_or (row_of (u ∷ w ∷ [])) 0 0 → high ≡ get_or (row_of (u ∷ w ∷ [])) 1 0 → side_number r.0 ≡ side_of low high u → side_number r.1 ≡ side_of low high w → Sided u w r
  by_row low high a b i k = record { below = rw (← a, ← b) i; above = rw (← a, ← b) k }

  pub sides_same : side_number r.0 ≡ 2 → side_number r.1 ≡ 2 → u ≡ w → Sided u w r
  sides_same i k e =
      let q : row_of (u ∷ w ∷ []) ≡ pad_to 6 [] = rw (← e) (row_alike 2 u (omega arith)) in
      by_row 0 0 (rw q refl) (rw q refl) (i ∙ sym (side_blank u)) (k ∙ sym (side_blank w))

  pub sides_above : side_number r.0 ≡ 2 → side_number r.1 ≡ 0 → u ≢ w → u ≡ 0 → Sided u w r
  unfolding row_of
  sides_above i k h z =
      let y : w ≢ 0 = λ e. h (z ∙ sym e) in
      by_row w 0 (rw (z, ne_eqb w 0 y, eq-eqb w w refl, ne_eqb 0 w (λ e. y (sym e))) refl) (rw (z, ne_eqb w 0 y, eq-eqb w w refl, ne_eqb 0 w (λ e. y (sym e))) refl)
      (i ∙ sym (side_none w 0 u z)) (k ∙ sym (side_low w 0 w y refl))

  pub sides_below : side_number r.0 ≡ 0 → side_number r.1 ≡ 2 → u ≢ 0 → w ≡ 0 → Sided u w r
  unfolding row_of
  sides_below i k y z =
      by_row u 0 (rw (z, ne_eqb u 0 y, eq-eqb u u refl, ne_eqb 0 u (λ e. y (sym e))) refl) (rw (z, ne_eqb u 0 y, eq-eqb u u refl, ne_eqb 0 u (λ e. y (sym e))) refl)
      (i ∙ sym (side_low u 0 u y refl)) (k ∙ sym (side_none u 0 w z))

  module _ (h : u ≢ w) (hu : u ≢ 0) (hw : w ≢ 0) where
    low_is : min u w ≡ get_or (row_of (u ∷ w ∷ [])) 0 0
    unfolding row_of
    low_is = rw (ne_eqb u 0 hu, ne_eqb w 0 hw, eq-eqb u u refl, eq-eqb w w refl, ne_eqb u w h, ne_eqb w u (λ e. h (sym e))) refl

    high_is : max u w ≡ get_or (row_of (u ∷ w ∷ [])) 1 0
    unfolding row_of
    high_is = rw (ne_eqb u 0 hu, ne_eqb w 0 hw, eq-eqb u u refl, eq-eqb w w refl, ne_eqb u w h, ne_eqb w u (λ e. h (sym e))) refl

    pub sides_up : side_number r.0 ≡ 0 → side_number r.1 ≡ 1 → u < w → Sided u w r
    sides_up i k l = by_row (min u w) (max u w) low_is high_is (i ∙ sym (side_low _ _ u hu (omega arith))) (k ∙ sym (side_high _ _ w hw (omega arith) (omega arith)))

    pub sides_down : side_number r.0 ≡ 1 → side_number r.1 ≡ 0 → w ≤ u → Sided u w r
    sides_down i k l = by_row (min u w) (max u w) low_is high_is (i ∙ sym (side_high _ _ u hu (omega arith) (omega arith))) (k ∙ sym (side_low _ _ w hw (omega arith)))

-- ---- one face cell

-- where its numbers and readings are read
pub record Spots (m : List ℕ) (values : List Float) (kinds : List ℕ) (p a v d : ℕ) : Type 0 where
  pub down : a ≤ p
  pub here : p < length m
  pub up : p + a < length m
  pub below_value : v < length values
  pub below_kind : v < length kinds
  pub above_value : v + d < length values
  pub above_kind : v + d < length kinds

module _ (e : Triple) (m : List ℕ) (values : List Float) (kinds : List ℕ) (n p a v d : ℕ) (B : Beside e m values kinds p a v d) where
  pub spots : Spots m values kinds p a v d
  spots =
      let r : Reads m p a = reads e m p B.whole B.within [] a [] B.axis in
      let i : voxel e (p - a) < volume e = voxel_inside e (p - a) (omega (arith, B.within)) in
      let j : voxel e (p + a) < volume e = voxel_inside e (p + a) (omega (arith, r.high, B.whole)) in
      record {
        down = r.low;
        here = r.here;
        up = r.high;
        below_value = omega (arith, B.below, B.valued);
        below_kind = omega (arith, B.below, B.kinded);
        above_value = omega (arith, B.above, B.valued);
        above_kind = omega (arith, B.above, B.kinded);
      }

  -- its row, by the numbers of its voxels
  abbrev pair : List ℕ
  pair = get_or m (p - a) 0 ∷ get_or m (p + a) 0 ∷ []

  row_is : row e m p ≡ row_of pair
  unfolding around
  row_is = row_odds e m p (a ∷ []) B.axis

  module _ (r : Option FaceSide × Option FaceSide) (S : Sided (get_or m (p - a) 0) (get_or m (p + a) 0) r) where
    -- what is taken below and above
    abbrev part : ℕ → ℕ → List Taken
    part side w = side_taken n side (reading_at values kinds w)

    part_is : (q side w : ℕ) → side ≡ side_of (get_or (row_of pair) 0 0) (get_or (row_of pair) 1 0) (get_or m q 0)
        → voxel_taken n (get_or (row_of pair) 0 0) (get_or (row_of pair) 1 0) (get_or m q 0) (reading_at values kinds w) ≡ part side w
    part_is q side w h = on_side_lem n _ _ (get_or m q 0) (reading_at values kinds w) ∙ ap (λ (k : ℕ). part k w) (sym h)

    taken_face : face_taken e m values kinds n p ≡ part (side_number r.0) v ++ part (side_number r.1) (v + d)
    unfolding face_taken gathered around
    taken_face =
        rw (row_is, up_around e p, B.axis, ← B.below, ← B.above, part_is (p - a) (side_number r.0) v S.below, part_is (p + a) (side_number r.1) (v + d) S.above)
        (ap (λ (l : List Taken). part (side_number r.0) v ++ l) (append-nil (part (side_number r.1) (v + d))))

    pub face_after : {A : Type 0} (step : A → Taken → A) (xs one two : A) → one ≡ after step xs (part (side_number r.0) v) → two ≡ after step one (part (side_number r.1) (v + d)) → two ≡ after step xs (face_taken e m values kinds n p)
    face_after step xs one two g h = h ∙ rw (g, taken_face) (sym (after_append step xs (part (side_number r.0) v) (part (side_number r.1) (v + d))))

-- ---- the face that a cell shows

module _ (s : Triple) (m numbers : List ℕ) (from p : ℕ) (c : Triple) (t : Bool) (e : t ≡ starts_by s c) where
  pub face_away : not t ≡ true → OwnFace s m numbers from p c 0
  face_away n = record { is = rw (sym e ∙ not-true t n) }

  pub face_own : (r : ℕ) → not t ≡ false → r ≡ final_in numbers from (get_or m p 0) → OwnFace s m numbers from p c r
  face_own r n f = record { is = rw (sym e ∙ not-false t n) f }

module _ (e s : Triple) (m numbers : List ℕ) (from : ℕ) (values : List Float) (kinds : List ℕ) (p : ℕ) (c : Triple) (r : ℕ) (o : OwnFace s m numbers from p c r) (q : place (sides e) p ≡ c) where
  own_is : own_face e s (brought m numbers from values kinds) p ≡ r
  unfolding own_face face_at
  own_is = rw q (sym o.is)

  pub cell_none : r ≡ 0 → cell_taken e s (brought m numbers from values kinds) p ≡ []
  unfolding cell_taken
  cell_none z = rw (own_is, eq-eqb r 0 z)

  pub cell_face : r ≢ 0 → cell_taken e s (brought m numbers from values kinds) p ≡ face_taken e m values kinds r p
  unfolding cell_taken
  cell_face z = rw (own_is, ne_eqb r 0 z)

  module _ {A : Type 0} (step : A → Taken → A) where
    pub away_after : (xs : A) → r ≡ 0 → xs ≡ after step xs (cell_taken e s (brought m numbers from values kinds) p)
    unfolding after
    away_after xs z = rw (cell_none z) refl

    pub own_after : (xs now : A) → r ≢ 0 → now ≡ after step xs (face_taken e m values kinds r p) → now ≡ after step xs (cell_taken e s (brought m numbers from values kinds) p)
    own_after xs now z f = rw (cell_face z) f

-- A cell that shows no face of the block shows none of the volume.
module _ (e s : Triple) (m numbers : List ℕ) (from : ℕ) (values : List Float) (kinds : List ℕ) (p : ℕ) (z : get_or m p 0 ≡ 0) where
  shows_none : face_at (brought m numbers from values kinds) p ≡ 0
  unfolding face_at final_in
  shows_none = rw (eq-eqb (get_or m p 0) 0 z) refl

  owns_none : own_face e s (brought m numbers from values kinds) p ≡ 0
  unfolding own_face
  owns_none = rw shows_none (by_test (starts_by s (place (sides e) p)) (λ t. rw t refl) (λ t. rw t refl))

  pub blank_none : cell_taken e s (brought m numbers from values kinds) p ≡ []
  unfolding cell_taken
  blank_none = rw owns_none refl

  pub blank_after : {A : Type 0} (step : A → Taken → A) (xs : A) → xs ≡ after step xs (cell_taken e s (brought m numbers from values kinds) p)
  unfolding after
  blank_after step xs = rw blank_none refl

-- ---- one line

-- The face cells of a line from x on.
abbrev pub left_on : Triple → Line → ℕ → List ℕ
left_on e line x = ahead (λ c. eqb (order e c) 2) line x

-- sizes of the numbers that a line is told by
pub record Bounds (e : Triple) (l : ℕ) : Type 0 where
  pub layer : (2 * e.x - 1) * (2 * e.y - 1) ≤ 16129
  pub area : e.x * e.y ≤ 4096
  pub y : l % (2 * e.y - 1) / 2 * e.x ≤ 4096
  pub z : l / (2 * e.y - 1) / 2 * (e.x * e.y) ≤ 262144
  pub deep : l / (2 * e.y - 1) < 127

pub bounds : (e : Triple) (l : ℕ) → Sized 64 e → l < line_count e → Bounds e l
unfolding line_count sides
bounds e l S h =
    let d : l / (2 * e.y - 1) < 2 * e.z - 1 = (div-lt_iff_lt-mul {k = 2 * e.y - 1} (omega (arith, S.y_low))).1 (omega (arith, mul_comm (2 * e.y - 1) (2 * e.z - 1))) in
    let m : l % (2 * e.y - 1) < 2 * e.y - 1 = mod-lt l (omega (arith, S.y_low)) in
    record {
      layer = layer_high S;
      area = area_high S;
      y = mul-le-mul {n₂ = 64} {m₂ = 64} (omega (arith, S.y_high)) S.x_high;
      z = mul-le-mul {n₂ = 64} {m₂ = 4096} (omega (arith, S.z_high)) (area_high S);
      deep = omega (arith, S.z_high);
    }

module _ (e : Triple) (l : ℕ) (r : FaceLine) (L : Lies e l r) (x : ℕ) (hx : x < r.line.width) (hl : l < line_count e) (a : r.line.start ≤ x) (b : x % 2 ≡ r.line.start % 2) where
  inside : x < (sides e).x
  inside = omega (arith, L.line.width)

  passes : (r.line.start ≡ x % 2) × (1 ≡ x % 2 + (line_y e l + line_z e l))
  passes = line_odd 1 (line_y e l + line_z e l) (sides e).x {s = r.line.start} {x = x} L.line.start a b inside

  stride_is : r.stride ≡ first_stride (x % 2) (line_y e l) (stride (sides e) Y) (stride (sides e) Z)
  unfolding stride
  stride_is = L.stride ∙ ap (λ (s : ℕ). first_stride s (line_y e l) (sides e).x ((sides e).x * (sides e).y)) passes.0

  apart_is : r.apart ≡ first_stride (x % 2) (line_y e l) (stride e Y) (stride e Z)
  unfolding stride
  apart_is = L.apart ∙ ap (λ (s : ℕ). first_stride s (line_y e l) e.x (e.x * e.y)) passes.0

  line_axis : odds e (r.line.base + x) ≡ r.stride ∷ []
  line_axis = rw (L.line.base, stride_is) (strided_one (line_strides e l x 1 inside (omega arith) passes.1) refl)

  pub line_beside : (m : List ℕ) (values : List Float) (kinds : List ℕ) → Whole e m values kinds → Beside e m values kinds (r.line.base + x) r.stride (x / 2 + r.first) r.apart
  line_beside m values kinds W =
      let v = voxels_beside e l x inside hl passes.1 in
      let g : x / 2 + r.first ≡ x / 2 + l % (sides e).y / 2 * e.x + l / (sides e).y / 2 * (e.x * e.y) = omega (arith, L.first) in
      record {
        whole = W.whole;
        valued = W.valued;
        kinded = W.kinded;
        within = walk_inside L.line x hx hl;
        axis = line_axis;
        below = rw (L.line.base, stride_is) (g ∙ sym v.0);
        above = rw (L.line.base, stride_is, apart_is) (ap (λ (n : ℕ). n + first_stride (x % 2) (line_y e l) (stride e Y) (stride e Z)) g ∙ sym v.1);
      }

  pub line_spot : place (sides e) (r.line.base + x) ≡ triple x r.y r.z
  line_spot = rw (L.line.base, L.y, L.z) (same_triple _ _ (line_place e l x inside))

-- The tables so far, at x of line l, with what is left of the line, and with all of it before.
pub record Going (e s : Triple) (g : Brought) (l : ℕ) (line : Line) (sums₀ : List Float) (counts₀ : List ℕ) (x : ℕ) (sums : List Float) (counts : List ℕ) : Type 0 where
  pub summed_up : sums_with sums (gathered (cell_taken e s g) (left_on e line x)) ≡ sums_with sums₀ (gathered (cell_taken e s g) (on_line e 2 l))
  pub counted_up : counts_with counts (gathered (cell_taken e s g) (left_on e line x)) ≡ counts_with counts₀ (gathered (cell_taken e s g) (on_line e 2 l))

module _ (e s : Triple) (g : Brought) (l : ℕ) (line : Line) (L : LineAt e 1 l line) where
  abbrev told : Tests (λ c. eqb (order e c) 2) (l * (sides e).x) (sides e).x 1 (line_y e l + line_z e l)
  told = order_tests e 2 l (omega arith)

  pub going_start : (sums : List Float) (counts : List ℕ) → Going e s g l line sums counts line.start sums counts
  unfolding on_line
  going_start sums counts = record { summed_up = rw (cells_first L told); counted_up = rw (cells_first L told) }

  module _ (sums₀ : List Float) (counts₀ : List ℕ) (x : ℕ) (sums : List Float) (counts : List ℕ) (G : Going e s g l line sums₀ counts₀ x sums counts) where
    pub going_more : (sums' : List Float) (counts' : List ℕ) → x < line.width → line.start ≤ x → x % 2 ≡ line.start % 2
        → sums' ≡ sums_with sums (cell_taken e s g (line.base + x)) → counts' ≡ counts_with counts (cell_taken e s g (line.base + x)) → Going e s g l line sums₀ counts₀ (x + 2) sums' counts'
    unfolding sums_with counts_with
    going_more sums' counts' h a b i k =
        let rest = cells_next L told (walk_even L a b) h in
        record {
          summed_up = after_next _ (cell_taken e s g) sums sums' (line.base + x) (left_on e line (x + 2)) i ∙ (rw rest at G.summed_up);
          counted_up = after_next _ (cell_taken e s g) counts counts' (line.base + x) (left_on e line (x + 2)) k ∙ (rw rest at G.counted_up);
        }

    pub going_end : line.width ≤ x
        → (sums ≡ sums_with sums₀ (gathered (cell_taken e s g) (on_line e 2 l))) × (counts ≡ counts_with counts₀ (gathered (cell_taken e s g) (on_line e 2 l)))
    unfolding sums_with counts_with
    going_end h =
        let none = cells_last L told h in
        (after_none _ (cell_taken e s g) sums ∙ (rw none at G.summed_up), after_none _ (cell_taken e s g) counts ∙ (rw none at G.counted_up))

-- cells that show 0 are passed over
module _ (e s : Triple) (m numbers : List ℕ) (from : ℕ) (values : List Float) (kinds : List ℕ) (l : ℕ) (r : Line) (L : LineAt e 1 l r) (sums₀ : List Float) (counts₀ : List ℕ) (sums : List Float) (counts : List ℕ) where
  abbrev here : ℕ → Type 0
  here x = Going e s (brought m numbers from values kinds) l r sums₀ counts₀ x sums counts

  skip_many : (n x : ℕ) → r.start ≤ x → x % 2 ≡ r.start % 2 → ((i : ℕ) → i < n → (x + 2 * i < r.width) × (get_or m (r.base + (x + 2 * i)) 0 ≡ 0)) → here x → here (x + 2 * n)
  unfolding sums_with counts_with
  skip_many zero x a b f G = subst here (omega arith) G
  skip_many (suc n) x a b f G =
      let q = skip_many n x a b (λ i h. f i (omega (arith, h))) G in
      let w = f n (omega arith) in
      subst here (omega arith)
      (going_more e s (brought m numbers from values kinds) l r L sums₀ counts₀ (x + 2 * n) sums counts q sums counts w.0 (omega arith) (omega arith)
      (blank_after e s m numbers from values kinds (r.base + (x + 2 * n)) w.1 _ sums) (blank_after e s m numbers from values kinds (r.base + (x + 2 * n)) w.1 _ counts))

  pub going_skip : (x y : ℕ) → r.start ≤ x → x % 2 ≡ r.start % 2 → Skips m r.base r.width x y → here x → here y
  going_skip x y a b K G = subst here (sym K.is) (skip_many K.many x a b K.blank G)

-- the search of the next cell: none passed yet, and one more
pub skips_none : (m : List ℕ) (base w x : ℕ) → Skips m base w x x
skips_none m base w x = record { many = 0; is = omega arith; blank = λ i h. absurd (omega (arith, h)) }

pub skips_more : (m : List ℕ) (base w x y : ℕ) → Skips m base w x y → y < w → get_or m (base + y) 0 ≡ 0 → Skips m base w x (y + 2)
skips_more m base w x y K h z =
    record {
      many = suc K.many;
      is = omega (arith, K.is);
      blank = λ i l.
          by_test (ltb i K.many) (λ t. K.blank i (ltb-true i K.many t))
          (λ t.
          let q : x + 2 * i ≡ y = omega (arith, l, ltb-false i K.many t, K.is) in
          (omega (arith, q, h), ap (λ (n : ℕ). get_or m (base + n) 0) q ∙ z));
    }

-- ---- all lines

pub record Gone (e s : Triple) (g : Brought) (sums₀ : List Float) (counts₀ : List ℕ) (l : ℕ) (sums : List Float) (counts : List ℕ) : Type 0 where
  pub summed_up : sums_with sums (gathered (cell_taken e s g) (from_line e 2 l)) ≡ sums_with sums₀ (block_taken e s g)
  pub counted_up : counts_with counts (gathered (cell_taken e s g) (from_line e 2 l)) ≡ counts_with counts₀ (block_taken e s g)

module _ (e s : Triple) (g : Brought) where
  pub gone_none : (sums : List Float) (counts : List ℕ) → Gone e s g sums counts 0 sums counts
  unfolding sums_with counts_with block_taken
  gone_none sums counts = record { summed_up = after_lines _ (cell_taken e s g) e 2 sums; counted_up = after_lines _ (cell_taken e s g) e 2 counts }

  module _ (sums₀ : List Float) (counts₀ : List ℕ) (l : ℕ) (sums : List Float) (counts : List ℕ) (G : Gone e s g sums₀ counts₀ l sums counts) where
    pub gone_next : (sums' : List Float) (counts' : List ℕ) → l < line_count e
        → sums' ≡ sums_with sums (gathered (cell_taken e s g) (on_line e 2 l)) → counts' ≡ counts_with counts (gathered (cell_taken e s g) (on_line e 2 l)) → Gone e s g sums₀ counts₀ (l + 1) sums' counts'
    unfolding sums_with counts_with
    gone_next sums' counts' h i k =
        record {
          summed_up = after_line _ (cell_taken e s g) e 2 sums sums' l h i ∙ G.summed_up;
          counted_up = after_line _ (cell_taken e s g) e 2 counts counts' l h k ∙ G.counted_up;
        }

    pub gone_all : line_count e ≤ l → (sums ≡ sums_with sums₀ (block_taken e s g)) × (counts ≡ counts_with counts₀ (block_taken e s g))
    unfolding sums_with counts_with
    gone_all h = (after_last _ (cell_taken e s g) e 2 sums l h ∙ G.summed_up, after_last _ (cell_taken e s g) e 2 counts l h ∙ G.counted_up)
