-- The voxels on both sides of a face cell, by their places in the lists.
-- Assumes nothing.
use mathlib.Core.Path.{◌≡◌, refl, sym, ap, ◌∙◌}
use Prim.Native.Nat.{ℕ, ◌+◌, ◌-◌, ◌*◌, ◌/◌, ◌%◌, ◌<◌}
use native.Mathlib.Omega.{arith}
use lib.Dec.{eqb}
use borrow.Author.Tests.{eqb-true, eqb-false}
use Rattle.lists.proofs.Cases.{by_test}
use Rattle.cells.specs.Box.{coord, each, stride, index, place}
use Rattle.cells.specs.declared.Axis.{Axis}
use Rattle.cells.specs.declared.Axis.TheVariants.{X, Y, Z}
use Rattle.cells.specs.declared.Triple.{Triple}
use Rattle.cells.specs.Grid.{sides, cells, parity, voxel}
use Rattle.cells.proofs.BoxLaws.{Inside, same_triple, index_place, place_index, raised, lowered, index_raised, index_lowered}
use Rattle.cells.proofs.GridLaws.{inside, low_side, high_side, raised_inside, lowered_inside}
use Rattle.lines.specs.Lines.{first_stride, line_count, line_y, line_z}
use Rattle.lines.proofs.LineLaws.{line_place, line_x, line_y_lem, line_z_lem, line_inside}

-- the place of a cell, halved
abbrev half : Triple → Triple
half c = each (λ a. coord c a / 2)

module _ (e : Triple) (p : ℕ) (h : p < cells e) (d : Axis) (o : 0 < parity e p d) where
  abbrev c : Triple
  c = place (sides e) p

  c_in : Inside (sides e) c
  c_in = inside e p h

  odd_here : coord c d % 2 ≡ 1
  unfolding parity
  odd_here = omega arith

  down_in : Inside (sides e) (lowered d c)
  down_in = lowered_inside (sides e) c d c_in

  down_place : place (sides e) (p - stride (sides e) d) ≡ lowered d c
  down_place =
      ap (place (sides e)) (ap (λ (n : ℕ). n - stride (sides e) d) (sym (index_place (sides e) p)) ∙ sym (index_lowered (sides e) c d (low_side e p d o)))
      ∙ same_triple _ _ (place_index (sides e) (lowered d c) (down_in X) (down_in Y))

  up_in : Inside (sides e) (raised d c)
  up_in = raised_inside (sides e) c d c_in (high_side e p d h o)

  up_place : place (sides e) (p + stride (sides e) d) ≡ raised d c
  up_place =
      ap (place (sides e)) (ap (λ (n : ℕ). n + stride (sides e) d) (sym (index_place (sides e) p)) ∙ sym (index_raised (sides e) c d))
      ∙ same_triple _ _ (place_index (sides e) (raised d c) (up_in X) (up_in Y))

  half_down : half (lowered d c) ≡ half c
  unfolding lowered
  half_down = at d odd_here
    where
      at : (d : Axis) → coord c d % 2 ≡ 1 → half (lowered d c) ≡ half c
      at X q = same_triple _ _ (elim [ X ↦ omega arith | Y ↦ refl | Z ↦ refl ])
      at Y q = same_triple _ _ (elim [ X ↦ refl | Y ↦ omega arith | Z ↦ refl ])
      at Z q = same_triple _ _ (elim [ X ↦ refl | Y ↦ refl | Z ↦ omega arith ])

  half_up : half (raised d c) ≡ raised d (half c)
  unfolding raised
  half_up = at d odd_here
    where
      at : (d : Axis) → coord c d % 2 ≡ 1 → half (raised d c) ≡ raised d (half c)
      at X q = same_triple _ _ (elim [ X ↦ omega arith | Y ↦ refl | Z ↦ refl ])
      at Y q = same_triple _ _ (elim [ X ↦ refl | Y ↦ omega arith | Z ↦ refl ])
      at Z q = same_triple _ _ (elim [ X ↦ refl | Y ↦ refl | Z ↦ omega arith ])

  pub voxel_down : voxel e (p - stride (sides e) d) ≡ voxel e p
  unfolding voxel
  voxel_down = ap (λ (t : Triple). index e (half t)) down_place ∙ ap (index e) half_down

  pub voxel_up : voxel e (p + stride (sides e) d) ≡ voxel e p + stride e d
  unfolding voxel
  voxel_up = ap (λ (t : Triple). index e (half t)) up_place ∙ ap (index e) half_up ∙ index_raised e (half c) d

-- The first stride where one axis is odd.
first_on_x : (kx ky w wh : ℕ) → kx ≡ 1 → ky ≡ 0 → first_stride kx ky w wh ≡ 1
unfolding first_stride
first_on_x kx ky w wh e f = rw (e, f) refl

first_on_y : (kx ky w wh : ℕ) → kx ≡ 0 → ky ≡ 1 → first_stride kx ky w wh ≡ w
unfolding first_stride
first_on_y kx ky w wh e f = rw (e, f) refl

first_on_z : (kx ky w wh : ℕ) → kx ≡ 0 → ky ≡ 0 → first_stride kx ky w wh ≡ wh
unfolding first_stride
first_on_z kx ky w wh e f = rw (e, f) refl

-- The cell at x of line l, with one odd axis: the places of its two voxels.
module _ (e : Triple) (l x : ℕ) (hx : x < (sides e).x) (hl : l < line_count e) (k : 1 ≡ x % 2 + (line_y e l + line_z e l)) where
  abbrev cell : ℕ
  cell = l * (sides e).x + x

  abbrev step : ℕ
  step = first_stride (x % 2) (line_y e l) (stride (sides e) Y) (stride (sides e) Z)

  abbrev apart : ℕ
  apart = first_stride (x % 2) (line_y e l) (stride e Y) (stride e Z)

  abbrev place_of : ℕ
  place_of = x / 2 + l % (sides e).y / 2 * e.x + l / (sides e).y / 2 * (e.x * e.y)

  here : voxel e cell ≡ place_of
  unfolding voxel index
  here = rw (line_place e l x hx X, line_place e l x hx Y, line_place e l x hx Z)

  pub voxels_beside : (voxel e (cell - step) ≡ place_of) × (voxel e (cell + step) ≡ place_of + apart)
  unfolding stride line_y line_z
  voxels_beside =
      by_test (eqb (x % 2) 1)
      (λ t.
      let m : x % 2 ≡ 1 = eqb-true (x % 2) 1 t in
      let n : line_y e l ≡ 0 = omega arith in
      both X (omega (arith, line_x e l x hx)) (first_on_x _ _ _ _ m n) (first_on_x _ _ _ _ m n))
      (λ t.
      let m : x % 2 ≡ 0 = omega (arith, eqb-false (x % 2) 1 t) in
      by_test (eqb (line_y e l) 1)
      (λ u.
      let n : line_y e l ≡ 1 = eqb-true (line_y e l) 1 u in
      both Y (omega (arith, line_y_lem e l x hx)) (first_on_y _ _ _ _ m n) (first_on_y _ _ _ _ m n))
      (λ u.
      let n : line_y e l ≡ 0 = omega (arith, eqb-false (line_y e l) 1 u) in
      both Z (omega (arith, line_z_lem e l x hx)) (first_on_z _ _ _ _ m n) (first_on_z _ _ _ _ m n)))
    where
      both : (d : Axis) → 0 < parity e cell d → step ≡ stride (sides e) d → apart ≡ stride e d → (voxel e (cell - step) ≡ place_of) × (voxel e (cell + step) ≡ place_of + apart)
      both d o s a = (
        ap (λ (n : ℕ). voxel e (cell - n)) s ∙ voxel_down e cell (line_inside e l x hx hl) d o ∙ here,
        ap (λ (n : ℕ). voxel e (cell + n)) s ∙ voxel_up e cell (line_inside e l x hx hl) d o ∙ ap (λ (n : ℕ). n + stride e d) here ∙ ap (λ (n : ℕ). place_of + n) (sym a),
      )
