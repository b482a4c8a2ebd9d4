-- Extents that are not off size.
-- Assumes nothing.
use mathlib.Core.Path.{◌≡◌}
use mathlib.Core.Bool.{true, false, ◌&&◌}
use Prim.Native.Nat.{ℕ, ◌≤◌}
use lib.Dec.{leb}
use native.Mathlib.Omega.{arith}
use borrow.Author.Tests.{leb-true, le-leb, not-false}
use Rattle.lists.proofs.Cases.{and_first, and_second, neither}
use Rattle.cells.specs.declared.Triple.{Triple}
use Rattle.cells.specs.Extents.{Sized, is_extent, off_size, off_place}

module _ (limit n : ℕ) (t : is_extent limit n ≡ true) where
  extent_low : 1 ≤ n
  unfolding is_extent
  extent_low = leb-true 1 n (and_first (leb 1 n) (leb n limit) t)

  extent_high : n ≤ limit
  unfolding is_extent
  extent_high = leb-true n limit (and_second (leb 1 n) (leb n limit) t)

pub sized_of : (limit : ℕ) (e : Triple) → off_size limit e ≡ false → Sized limit e
unfolding off_size
sized_of limit e t =
    let x = is_extent limit e.x in
    let y = is_extent limit e.y in
    let z = is_extent limit e.z in
    let a = not-false (x && (y && z)) t in
    let on_x = and_first x (y && z) a in
    let on_y = and_first y z (and_second x (y && z) a) in
    let on_z = and_second y z (and_second x (y && z) a) in
    record {
      x_low = extent_low limit e.x on_x;
      y_low = extent_low limit e.y on_y;
      z_low = extent_low limit e.z on_z;
      x_high = extent_high limit e.x on_x;
      y_high = extent_high limit e.y on_y;
      z_high = extent_high limit e.z on_z;
    }

-- Extents within a limit are not off size for a limit that is as large or larger.
pub size_fits : (limit most : ℕ) (e : Triple) → limit ≤ most → Sized limit e → off_size most e ≡ false
unfolding off_size is_extent
size_fits limit most e h s =
    rw (
      le-leb 1 e.x s.x_low,
      le-leb e.x most (omega (arith, s.x_high)),
      le-leb 1 e.y s.y_low,
      le-leb e.y most (omega (arith, s.y_high)),
      le-leb 1 e.z s.z_low,
      le-leb e.z most (omega (arith, s.z_high)),
    )

-- .. and are within it too.
pub sized_within : {limit most : ℕ} {e : Triple} → limit ≤ most → Sized limit e → Sized most e
sized_within {limit} {most} {e} h s = sized_of most e (size_fits limit most e h s)

-- A block in its place is of a right size.
pub sized_at : (e o : Triple) → off_place e o ≡ false → Sized 64 e
unfolding off_place
sized_at e o t = sized_of 64 e (neither (off_size 64 e) _ t).0
