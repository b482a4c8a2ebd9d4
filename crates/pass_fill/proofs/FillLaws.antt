-- What a cell of a line holds before any numbering, and the numbers that a line's code computes.
-- Assumes nothing.
use mathlib.Core.Path.{◌≡◌, ◌∙◌}
use mathlib.Core.Logic.{◌≢◌}
use mathlib.Core.List.{List, []}
use Prim.Native.Nat.{ℕ, suc, ◌+◌, ◌-◌, ◌*◌, ◌/◌, ◌%◌, ◌≤◌, ◌<◌}
use native.Mathlib.Omega.{arith}
use lib.Dec.{eqb}
use lib.ListN.{length, get_or, set, take, drop}
use borrow.Author.Tests.{eqb-true, eqb-false, eq-eqb, ne_eqb}
use Rattle.std.proofs.lemmas.Grind.{elements}
use Rattle.lists.specs.Lists.{overlay}
use Rattle.lists.proofs.Cases.{by_test}
use Rattle.lists.proofs.Overlay.{overlay_same}
use Rattle.cells.specs.Box.{volume, index}
use Rattle.cells.specs.declared.Axis.TheVariants.{X, Y, Z}
use Rattle.cells.specs.declared.Triple.{Triple}
use Rattle.cells.specs.Extents.{Sized}
use Rattle.cells.specs.Grid.{sides, cells, voxel}
use Rattle.cells.proofs.GridLaws.{voxel_inside}
use Rattle.cells.proofs.ExtentLaws.{cells_high, area_high, volume_high}
use Rattle.labels.specs.Number.{code_at}
use Rattle.lines.specs.Lines.{line_count, line_y, line_z, LineAt}
use Rattle.lines.specs.declared.Line.{Line}
use Rattle.lines.proofs.LineLaws.{line_place, line_order, line_inside}
use Rattle.lines.proofs.WalkLaws.{walk_first, first_parity}
use Rattle.pass_fill.specs.CodeOn.{code_on}

-- ---- a line of voxels

module _ (codes m : List ℕ) (base : ℕ) where
  -- The map once the cells before the i-th code are laid.
  abbrev before : ℕ → List ℕ
  before i = overlay m base (code_on codes 0) (2 * i)

  code_even : (i : ℕ) → code_on codes 0 (2 * i) ≡ get_or codes i 0
  unfolding code_on
  code_even i =
      let even : 2 * i % 2 ≡ 0 = omega arith in
      let half : 0 + 2 * i / 2 ≡ i = omega arith in
      rw (even, half)

  code_odd : (i : ℕ) → code_on codes 0 (suc (2 * i)) ≡ 0
  unfolding code_on
  code_odd i = let odd : suc (2 * i) % 2 ≡ 1 = omega arith in rw odd

  -- The i-th code, and the 0 behind it.
  pub code_laid : (i : ℕ) → set (before i) (base + 2 * i) (get_or codes i 0) ≡ overlay m base (code_on codes 0) (2 * i + 1)
  unfolding overlay
  code_laid i =
      let s : 2 * i + 1 ≡ suc (2 * i) = omega arith in
      rw (s, code_even i)

  pub gap_laid : (i : ℕ) → set (set (before i) (base + 2 * i) (get_or codes i 0)) (base + 2 * i + 1) 0 ≡ before (i + 1)
  unfolding overlay
  gap_laid i =
      let s : 2 * (i + 1) ≡ suc (suc (2 * i)) = omega arith in
      let p : base + 2 * i + 1 ≡ base + suc (2 * i) = omega arith in
      rw (s, p, code_even i, code_odd i)

-- n codes from place v on, as a slice of their own.
module _ (codes : List ℕ) (v n : ℕ) (h : v + n ≤ length codes) where
  abbrev run_of : List ℕ
  run_of = take (v + n - v) (drop v codes)

  pub length-run_of : length run_of ≡ n
  length-run_of = grind (arith, elements)

  slice_at : (x : ℕ) → x < 2 * n - 1 → code_on run_of 0 x ≡ code_on codes v x
  unfolding code_on
  slice_at x k =
      let s : get_or run_of (0 + x / 2) 0 ≡ get_or codes (v + x / 2) 0 = grind (arith, elements) in
      rw s

  pub slice_laid : (m : List ℕ) (base : ℕ) → overlay m base (code_on run_of 0) (2 * length run_of - 1) ≡ overlay m base (code_on codes v) (2 * n - 1)
  slice_laid m base = rw length-run_of (overlay_same m base (code_on run_of 0) (code_on codes v) (2 * n - 1) slice_at)

-- ---- the codes of a line

-- A voxel stands at x = 0 exactly where no other axis is odd.
module _ {e : Triple} {l : ℕ} {r : Line} (L : LineAt e 0 l r) where
  pub voxels_there : 0 < (sides e).x → r.start ≡ 0 → line_y e l + line_z e l ≡ 0
  voxels_there h z = omega (arith, (walk_first L).passes (omega arith))

  pub voxels_none : r.start ≢ 0 → line_y e l + line_z e l ≢ 0
  voxels_none z q = z (L.start ∙ first_parity 0 (line_y e l + line_z e l) (sides e).x 0 (omega arith))

module _ (e : Triple) (codes : List ℕ) (l x : ℕ) (h : x < (sides e).x) where
  -- the place of the code that the first cell of a line of voxels holds
  abbrev first : ℕ
  first = l % (sides e).y / 2 * e.x + l / (sides e).y / 2 * (e.x * e.y)

  -- how many of y and z are odd
  abbrev odd_axes : ℕ
  odd_axes = line_y e l + line_z e l

  voxel_line : voxel e (l * (sides e).x + x) ≡ first + x / 2
  unfolding voxel index
  voxel_line = rw (line_place e l x h X, line_place e l x h Y, line_place e l x h Z) (omega arith)

  pub voxel_on : l < line_count e → first + x / 2 < volume e
  voxel_on k = rw (← voxel_line) (voxel_inside e (l * (sides e).x + x) (line_inside e l x h k))

  -- the cell at x of a line of voxels holds the code of its voxel, if it is one
  pub code_line : odd_axes ≡ 0 → code_at e codes (l * (sides e).x + x) ≡ code_on codes first x
  unfolding code_at code_on line_y line_z
  code_line q =
      let o = 3 - (x % 2 + line_y e l + line_z e l) in
      rw (line_order e l x h, voxel_line)
      (by_test (eqb (x % 2) 0) (λ u. rw (u, eq-eqb o 3 (omega (arith, eqb-true (x % 2) 0 u)))) (λ u. rw (u, ne_eqb o 3 (λ k. eqb-false (x % 2) 0 u (omega arith)))))

  -- .. and one of any other line holds 0
  pub other_cell : odd_axes ≢ 0 → code_at e codes (l * (sides e).x + x) ≡ 0
  unfolding code_at line_y line_z
  other_cell q =
      rw (line_order e l x h, ne_eqb (3 - (x % 2 + line_y e l + line_z e l)) 3 (λ k. q (omega arith)))

-- ---- the numbers that a line's code computes

pub record Room (e : Triple) (l : ℕ) : Type 0 where
  pub line : l * (2 * e.x - 1) + (2 * e.x - 1) ≤ cells e
  pub whole : cells e ≤ 2048383
  pub area : e.x * e.y ≤ 4096
  pub codes_end : l % (2 * e.y - 1) / 2 * e.x + l / (2 * e.y - 1) / 2 * (e.x * e.y) + e.x ≤ volume e
  pub codes_few : volume e ≤ 262144

pub room : (e : Triple) (l : ℕ) → Sized 64 e → l < line_count e → Room e l
unfolding sides
room e l s k =
    let end : 2 * e.x - 2 < 2 * e.x - 1 = omega (arith, s.x_low) in
    let v : l % (2 * e.y - 1) / 2 * e.x + l / (2 * e.y - 1) / 2 * (e.x * e.y) + (2 * e.x - 2) / 2 < volume e = voxel_on e [] l (2 * e.x - 2) end k in
    let i : l * (2 * e.x - 1) + (2 * e.x - 2) < cells e = line_inside e l (2 * e.x - 2) end k in
    record { line = omega arith; whole = cells_high s; area = area_high s; codes_end = omega (arith, s.x_low); codes_few = volume_high s }
