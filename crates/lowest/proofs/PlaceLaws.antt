-- The lowest-numbered block that has the cell at a place of the volume: by the block's starts, and by the first intervals on the axes.
-- Assumes nothing.
use mathlib.Core.Path.{◌≡◌, sym, ap, ◌∙◌}
use mathlib.Core.Bool.{Bool, true, false, not, true≢false}
use mathlib.Core.List.{List}
use Prim.Native.Nat.{ℕ, suc, ◌+◌, ◌-◌, ◌*◌, ◌≤◌, ◌<◌}
use native.Mathlib.Omega.{arith}
use lib.Dec.{eqb, ltb}
use lib.ListN.{get_or, length, take, drop}
use Rattle.std.proofs.Common.{length-drop}
use Rattle.std.proofs.lemmas.Grind.{get_or_after_one}
use Rattle.std.proofs.lemmas.List.{get_or-take, get_or_default, length-take-le}
use borrow.Author.Tests.{lt-ltb, ltb-true, ltb-false, ne_eqb, not-true, not-false}
use Rattle.std.specs.List.Sorted.{IsPartitionedBy, IsPartitionPoint}
use Rattle.lists.proofs.Cases.{by_test}
use Rattle.cells.specs.Box.{triple, coord, each, index, place}
use Rattle.cells.specs.declared.Axis.{Axis}
use Rattle.cells.specs.declared.Axis.TheVariants.{X, Y, Z}
use Rattle.cells.specs.declared.Triple.{Triple}
use Rattle.cells.specs.Grid.{sides, cells}
use Rattle.cells.proofs.BoxLaws.{Inside, index_place, place_index, index_inside, same_triple}
use Rattle.cutting.specs.Cutting.{Cutting, cuts, cut_list, intervals, low_end, block_sides, blocks, good_cut, interval, block_extents}
use Rattle.cutting.proofs.CutLaws.{Spans, cut_interval, cut_on, block_sides_on, interval_is, has_spans, spans_has, block_in, interval_at}
use Rattle.cutting.proofs.SeamLaws.{cut_ends}
use Rattle.joiner.specs.Stages.{has_cell, local, lowest_block}
use Rattle.joiner.proofs.Codes.{cell_in_block, block_has_cell, lowest_has_cell, lowest_there}
use Rattle.blocks.specs.Blocks.{cut_by, origin_of, size_of, Tells, has_in, local_in}
use Rattle.blocks.specs.declared.Cuts.{Cuts}
use Rattle.blocks.specs.declared.Block.{Block}
use Rattle.blocks.proofs.BlockLaws.{in_low, in_high, has_told, local_told}
use Rattle.strain_calls.specs.Adding.{is_lowest}
use Rattle.lowest.specs.Lowest.{starts, starts_by, own_cell, own_in, FirstInterval, InVolume}
use Rattle.lowest.proofs.LowestLaws.{lowest_le, listed, ordered, ordered_by, index_le, own_lowest}

-- ---- a place of the volume

module _ (k : Cutting) (good : good_cut k ≡ true) where
  abbrev cell_position : Triple → ℕ
  cell_position c = index (sides k.extents) c

  module _ (c : Triple) (v : InVolume k c) where
    position_in : cell_position c < cells k.extents
    unfolding cells
    position_in = index_inside (sides k.extents) c v

    placed : place (sides k.extents) (cell_position c) ≡ c
    placed = same_triple _ _ (place_index (sides k.extents) c (v X) (v Y))

  -- ---- by the starts

  module _ (b : ℕ) (hb : b < blocks k) (r : Block) (m : Tells k b r) (c : Triple) (v : InVolume k c) where
    own_none : has_in r c ≡ false → false ≡ eqb (lowest_block k c) b
    own_none f =
        sym (ne_eqb (lowest_block k c) b
        (λ e. true≢false (sym (ap (λ (n : ℕ). has_cell k n c) (sym e) ∙ (lowest_there k good c v).1) ∙ sym (has_told k b r m c) ∙ f)))

    module _ (t : has_in r c ≡ true) where
      -- the place in the block
      abbrev here : Triple
      here = each (λ a. coord c a - 2 * coord (origin_of r) a)

      here_is : place (sides (block_extents k b)) (local k b c) ≡ here
      unfolding local_in
      here_is =
          rw (← m.size, ← local_told k b r m c)
          (same_triple _ _ (place_index (sides (size_of r)) here (omega (arith, in_low r c t X, in_high r c t X)) (omega (arith, in_low r c t Y, in_high r c t Y))))

      own_some : starts_by (starts k b) here ≡ eqb (lowest_block k c) b
      unfolding own_cell is_lowest
      own_some =
          let h = cell_in_block k good b hb c (sym (has_told k b r m c) ∙ t) in
          rw (here_is, h.1, placed c v) at (own_lowest k good b hb (local k b c) h.0)

    -- A block is the lowest one that has the cell exactly where it has it at or after its starts.
    pub own_in_lowest : own_in r (starts k b) c ≡ eqb (lowest_block k c) b
    unfolding own_in
    own_in_lowest = by_test (has_in r c) (λ t. rw t (own_some t)) (λ f. rw f (own_none f))

  -- ---- by the first intervals

  module _ (i c : Triple) (v : InVolume k c) (first : (a : Axis) → FirstInterval (cuts k a) (coord c a) (coord i a)) where
    i_in : Inside (block_sides k) i
    i_in a = rw (block_sides_on k a) (first a).within

    -- the block with these intervals, and the lowest one
    abbrev b : ℕ
    b = index (block_sides k) i

    abbrev l : ℕ
    l = lowest_block k c

    -- The lowest block's intervals have the cell's coordinates, and no interval before the first ones has.
    its : (a : Axis) → Spans (cuts k a) (interval k l a) (coord c a)
    its = rw (placed c v) at (has_spans k good l (lowest_there k good c v).0 (cell_position c) (rw (placed c v) at (lowest_has_cell k good (cell_position c) (position_in c v)).1))

    behind : (a : Axis) → coord i a ≤ interval k l a
    behind a =
        by_test (ltb (interval k l a) (coord i a))
        (λ t.
        let h : interval k l a < coord i a = ltb-true _ _ t in
        absurd (omega (arith, (first a).begun (omega arith), (its a).below, ordered k good a (interval k l a) (coord i a) h (first a).within)))
        (λ t. ltb-false _ _ t)

    -- The first ones have them too: where the lowest block's is a later one, at the end that they share with the next.
    spans : (a : Axis) → Spans (cuts k a) (coord i a) (coord c a)
    spans a = by_test (ltb (coord i a) (interval k l a)) between (λ t. let e : interval k l a ≡ coord i a = omega (arith, behind a, ltb-false (coord i a) (interval k l a) t) in rw e at (its a))
      where
        between : ltb (coord i a) (interval k l a) ≡ true → Spans (cuts k a) (coord i a) (coord c a)
        between t =
            let h : coord i a < interval k l a = ltb-true _ _ t in
            let n : ℕ = coord k.extents a in
            let s : suc (coord i a) < intervals (cuts k a) = omega (arith, listed k l (lowest_there k good c v).0 a) in
            record {
              above = omega (arith, (its a).above, (cut_interval n (cuts k a) (cut_on k good a) (coord i a) (first a).within).upward, ordered k good a (coord i a) (interval k l a) h (listed k l (lowest_there k good c v).0 a));
              below = omega (arith, (first a).next_not s, cut_ends n (cuts k a) (cut_on k good a) (coord i a) s);
            }

    has_first : has_cell k b c ≡ true
    has_first =
        let hb : b < blocks k = block_in k i i_in in
        rw (placed c v) at
        (block_has_cell k good b hb (cell_position c) (spans_has k good b hb (cell_position c) (λ a. rw (placed c v, interval_at k i i_in a) (spans a))))

    -- The block with these intervals is the lowest one that has the cell.
    pub first_lowest : b ≡ l
    first_lowest =
        omega (
          arith,
          lowest_le k c b (block_in k i i_in) has_first,
          index_le (block_sides k) i (place (block_sides k) l) (λ a. omega (arith, behind a, interval_is k l a)),
          index_place (block_sides k) l,
        )

-- ---- the ways of `is_lowest`

module _ (r : Block) (c : Triple) (t : Bool) (e : t ≡ has_in r c) where
  has : not t ≡ false → has_in r c ≡ true
  has n = sym e ∙ not-false t n

  pub has_low : not t ≡ false → (a : Axis) → 2 * coord (origin_of r) a ≤ coord c a
  has_low n = in_low r c (has n)

  module _ (s : Triple) where
    pub lacks : not t ≡ true → false ≡ own_in r s c
    unfolding own_in
    lacks n = rw (sym e ∙ not-true t n)

    pub owns : not t ≡ false → (u : Bool) → u ≡ starts_by s (each (λ a. coord c a - 2 * coord (origin_of r) a)) → u ≡ own_in r s c
    unfolding own_in
    owns n u f = rw (has n) f

-- ---- the ways of `interval_of`

-- the places where the intervals of a cut list begin do not fall
begins_rise : (n : ℕ) (c : List ℕ) → cut_list n c ≡ true → (i j : ℕ) → i ≤ j → j < intervals c → low_end c i ≤ low_end c j
begins_rise n c t i j h k =
    by_test (ltb i j)
    (λ l.
    let m : i < j = ltb-true i j l in
    let e : suc (i + (j - suc i)) ≡ j = omega arith in
    omega (arith, (cut_interval n c t i (omega arith)).upward, ordered_by n c t i (j - suc i) (omega arith), ap (low_end c) e))
    (λ l. let m : j ≤ i = ltb-false i j l in let e : i ≡ j = omega arith in omega (arith, ap (low_end c) e))

module _ (c : List ℕ) (x : ℕ) where
  -- a list that has one interval
  pub alone_within : length c < 2 → 0 < intervals c
  unfolding intervals
  alone_within h = omega arith

  pub alone_first : length c < 2 → FirstInterval c x 0
  unfolding intervals
  alone_first h = record { within = omega arith; begun = λ k. absurd (omega arith); next_not = λ k. absurd (omega arith) }

  -- the places xs where the later intervals begin
  module _ (xs : List ℕ) (long : length xs + 2 ≡ length c) (same : (i d : ℕ) → i < length xs → get_or xs i d ≡ get_or c (i + 1) 0) where
    pub more_within : (r : ℕ) → r ≤ length xs → r < intervals c
    unfolding intervals
    more_within r h = omega (arith, long)

    pub parted : (n : ℕ) → cut_list n c ≡ true → IsPartitionedBy (λ y. ltb (2 * y) x) xs
    unfolding low_end
    parted n t i j d h k q =
        let u : get_or xs i d ≤ get_or xs j d = omega (arith, same i d (omega arith), same j d k, begins_rise n c t (i + 1) (j + 1) (omega arith) (more_within (j + 1) (omega arith))) in
        lt-ltb (2 * get_or xs i d) x (omega (arith, ltb-true (2 * get_or xs j d) x q))

    pub more_first : (r : ℕ) → r ≤ length xs → IsPartitionPoint (λ y. ltb (2 * y) x ≡ true) (λ y. ltb (2 * y) x ≡ false) xs r → FirstInterval c x r
    unfolding low_end intervals
    more_first r h p = record {
      within = more_within r h;
      begun = λ k.
          let s : r - 1 + 1 ≡ r = omega arith in
          omega (arith, ltb-true (2 * get_or xs (r - 1) 0) x (p.0 (r - 1) 0 (omega arith) (omega arith)), same (r - 1) 0 (omega arith), ap (λ (i : ℕ). get_or c i 0) s);
      next_not = λ k.
          let s : r + 1 ≡ suc r = omega arith in
          omega (arith, long, ltb-false (2 * get_or xs r 0) x (p.1 r 0 (omega arith) (omega (arith, long))), same r 0 (omega (arith, long)), ap (λ (i : ℕ). get_or c i 0) s);
    }

-- a list without its first entry and its last
module _ (c : List ℕ) (h : 2 ≤ length c) where
  abbrev pub inner : List ℕ
  inner = take (length c - 1 - 1) (drop 1 c)

  pub inner_long : length inner + 2 ≡ length c
  inner_long = omega (arith, length-take-le (length c - 1 - 1) (drop 1 c) (omega (arith, length-drop 1 c)))

  pub inner_same : (i d : ℕ) → i < length inner → get_or inner i d ≡ get_or c (i + 1) 0
  inner_same i d k =
      let s : 1 + i ≡ i + 1 = omega arith in
      get_or-take (length c - 1 - 1) (drop 1 c) i d (omega (arith, inner_long)) ∙ get_or_after_one c i d ∙ ap (λ (j : ℕ). get_or c j d) s
      ∙ get_or_default c (i + 1) d 0 (omega (arith, inner_long))

-- ---- the number that `lowest_block` finds

module _ (cuts : Cuts) (c : Triple) (i j l w h : ℕ) (ew : w ≡ intervals cuts.x.now) (eh : h ≡ intervals cuts.y.now) where
  pub number_lowest : (e : Triple) (good : good_cut (cut_by e cuts) ≡ true) → InVolume (cut_by e cuts) c
      → ((n : ℕ) → cut_list n cuts.x.now ≡ true → FirstInterval cuts.x.now c.x i) → ((n : ℕ) → cut_list n cuts.y.now ≡ true → FirstInterval cuts.y.now c.y j)
      → ((n : ℕ) → cut_list n cuts.z.now ≡ true → FirstInterval cuts.z.now c.z l) → i + j * w + l * (w * h) ≡ lowest_block (cut_by e cuts) c
  unfolding index block_sides
  number_lowest e good v fx fy fz =
      let k : Cutting = cut_by e cuts in
      rw (ew, eh) (first_lowest k good (triple i j l) c v (elim [ X ↦ fx e.x (cut_on k good X) | Y ↦ fy e.y (cut_on k good Y) | Z ↦ fz e.z (cut_on k good Z) ]))
