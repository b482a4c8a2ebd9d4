-- A block is the lowest-numbered one that has a cell of it exactly where the cell is at or after the block's starts.
-- Assumes nothing.
use mathlib.Core.Path.{◌≡◌, refl, sym, ap, ◌∙◌, subst}
use mathlib.Core.Bool.{true, false}
use mathlib.Core.List.{List}
use Prim.Native.Nat.{ℕ, zero, suc, ◌+◌, ◌-◌, ◌*◌, ◌/◌, ◌%◌, ◌≤◌, ◌<◌, min}
use native.Mathlib.Nat.{mul-le-mul_right, mul-pos, div-div-eq-div-mul}
use native.Mathlib.Omega.{arith}
use lib.Dec.{eqb, leb}
use borrow.Author.Tests.{eq-eqb, ne_eqb, leb-true, leb-false}
use Rattle.lists.specs.Lists.{consecutive, keep}
use Rattle.lists.proofs.Cases.{by_test}
use Rattle.lists.proofs.Lists.{ascends_consecutive, ascends_keep, consecutive_in, keep_in}
use Rattle.cells.specs.Box.{triple, coord, stride, index, place}
use Rattle.cells.specs.declared.Axis.{Axis}
use Rattle.cells.specs.declared.Axis.TheVariants.{X, Y, Z}
use Rattle.cells.specs.declared.Triple.{Triple}
use Rattle.cells.specs.Grid.{sides, cells}
use Rattle.cells.proofs.BoxLaws.{Inside, coord_each, index_place, place_index, place_inside, lowered, lowered_add}
use Rattle.cells.proofs.GridLaws.{inside, lowered_inside}
use Rattle.labels.proofs.ComponentLaws.{ascends_first}
use Rattle.cutting.specs.Cutting.{Cutting, cuts, cut_list, intervals, low_end, high_end, block_sides, blocks, good_cut, interval, block_extents, embed}
use Rattle.cutting.specs.Nodes.{BlockHas}
use Rattle.cutting.proofs.CutLaws.{Spans, cut_interval, cut_on, shift_into, block_sides_on, interval_is, origin_on, shift_on, shift_inside, embed_inside, has_spans, spans_has, block_in, interval_at}
use Rattle.cutting.proofs.SeamLaws.{cut_ends}
use Rattle.joiner.specs.Stages.{has_cell, lowest_block}
use Rattle.joiner.proofs.Codes.{block_has_cell, lowest_has, lowest_has_cell}
use Rattle.strain_calls.specs.Adding.{is_lowest}
use Rattle.lowest.specs.Lowest.{starts, starts_by, own_cell, AnyDepth}

-- the lowest block that has a cell is no later than another that has it
pub lowest_le : (k : Cutting) (c : Triple) (b : ℕ) → b < blocks k → has_cell k b c ≡ true → lowest_block k c ≤ b
unfolding lowest_block
lowest_le k c b hb t =
    ascends_first 0 (keep (λ b'. has_cell k b' c) (consecutive 0 (blocks k))) (ascends_keep (λ b'. has_cell k b' c) 0 (consecutive 0 (blocks k)) (ascends_consecutive 0 (blocks k)))
    (keep_in (λ b'. has_cell k b' c) (consecutive 0 (blocks k)) (consecutive_in 0 (blocks k) (omega arith) (omega arith)) t)

-- ---- one axis

-- an interval ends where a later one begins, or before
pub ordered_by : (n : ℕ) (c : List ℕ) → cut_list n c ≡ true → (i d : ℕ) → suc (i + d) < intervals c → high_end c i ≤ low_end c (suc (i + d))
ordered_by n c t i zero h = let e : suc (i + 0) ≡ suc i = omega arith in omega (arith, cut_ends n c t i (omega arith), ap (low_end c) e)
ordered_by n c t i (suc d) h =
    let e : suc (i + suc d) ≡ suc (suc (i + d)) = omega arith in
    omega (arith, ordered_by n c t i d (omega arith), (cut_interval n c t (suc (i + d)) (omega arith)).upward, cut_ends n c t (suc (i + d)) (omega arith), ap (low_end c) e)

-- the interval of a block is one of its axis
pub listed : (k : Cutting) (c : ℕ) → c < blocks k → (a : Axis) → interval k c a < intervals (cuts k a)
unfolding blocks
listed k c hc a = omega (arith, interval_is k c a, block_sides_on k a, place_inside (block_sides k) c hc a)

-- an interval of a good cut ends where a later one begins, or before
pub ordered : (k : Cutting) → good_cut k ≡ true → (a : Axis) (i j : ℕ) → i < j → j < intervals (cuts k a) → high_end (cuts k a) i ≤ low_end (cuts k a) j
ordered k good a i j h l =
    let e : suc (i + (j - suc i)) ≡ j = omega arith in
    subst (λ (n : ℕ). high_end (cuts k a) i ≤ low_end (cuts k a) n) e
    (ordered_by (coord k.extents a) (cuts k a) (cut_on k good a) i (j - suc i) (omega arith))

pub index_le : (s c d : Triple) → ((a : Axis) → coord c a ≤ coord d a) → index s c ≤ index s d
unfolding index
index_le s c d h = omega (arith, h X, mul-le-mul_right s.x (h Y), mul-le-mul_right (s.x * s.y) (h Z))

stride_pos : (s c : Triple) → Inside s c → (a : Axis) → 0 < stride s a
unfolding stride
stride_pos s c i X = omega arith
stride_pos s c i Y = omega (arith, i X)
stride_pos s c i Z = mul-pos (omega (arith, i X)) (omega (arith, i Y))

module _ (k : Cutting) (good : good_cut k ≡ true) (b : ℕ) (hb : b < blocks k) (p : ℕ) (hp : p < cells (block_extents k b)) where
  abbrev here : Triple
  here = place (sides (block_extents k b)) p

  abbrev there : Triple
  there = place (sides k.extents) (embed k b p)

  there_on : (a : Axis) → coord there a ≡ 2 * low_end (cuts k a) (interval k b a) + coord here a
  unfolding embed shift_into
  there_on a =
      let j : Inside (sides k.extents) (shift_into k b here) = shift_inside k good b hb here (inside (block_extents k b) p hp) in
      place_index (sides k.extents) (shift_into k b here) (j X) (j Y) a ∙ shift_on k b here a ∙ ap (λ (n : ℕ). 2 * n + coord here a) (origin_on k b a)

  own : BlockHas k b (embed k b p)
  own = record { p = p; within = hp; is = refl }

  has_own : has_cell k b there ≡ true
  has_own = block_has_cell k good b hb (embed k b p) own

  start_on : (a : Axis) → coord (starts k b) a ≡ min 1 (interval k b a)
  unfolding starts
  start_on a = coord_each (λ a'. min 1 (interval k b a')) a

  -- ---- at or after the starts: no block before b has the cell
  module _ (late : (a : Axis) → coord (starts k b) a ≤ coord here a) where
    abbrev first : ℕ
    first = lowest_block k there

    found : (first < blocks k) × (has_cell k first there ≡ true)
    found = lowest_has k good (embed k b p) (embed_inside k good b hb p hp)

    behind : (a : Axis) → interval k b a ≤ interval k first a
    behind a =
        by_test (leb (interval k b a) (interval k first a)) (λ t. leb-true _ _ t)
        (λ t.
        let w = lowest_has_cell k good (embed k b p) (embed_inside k good b hb p hp) in
        let s : Spans (cuts k a) (interval k first a) (coord there a) = has_spans k good first found.0 (embed k b p) w.1 a in
        let l : interval k first a < interval k b a = leb-false _ _ t in
        absurd (omega (arith, late a, start_on a, there_on a, s.below, ordered k good a (interval k first a) (interval k b a) l (listed k b hb a))))

    lowest_late : lowest_block k there ≡ b
    lowest_late =
        let l : b ≤ first =
        subst (λ (n : ℕ). n ≤ first) (index_place (block_sides k) b)
        (subst (λ (n : ℕ). index (block_sides k) (place (block_sides k) b) ≤ n) (index_place (block_sides k) first)
        (index_le (block_sides k) (place (block_sides k) b) (place (block_sides k) first) (λ a. omega (arith, behind a, interval_is k b a, interval_is k first a)))) in
        omega (arith, lowest_le k there b hb has_own)

  -- ---- before the start on an axis: the block before b on it has the cell
  module _ (a : Axis) (early : coord here a < coord (starts k b) a) where
    abbrev m : Triple
    m = place (block_sides k) b

    m_in : Inside (block_sides k) m
    unfolding blocks
    m_in = place_inside (block_sides k) b hb

    abbrev before : ℕ
    before = index (block_sides k) (lowered a m)

    before_in : before < blocks k
    before_in = block_in k (lowered a m) (lowered_inside (block_sides k) m a m_in)

    later : 0 < coord m a
    later = omega (arith, early, start_on a, interval_is k b a)

    own_spans : (d : Axis) → Spans (cuts k d) (coord m d) (coord there d)
    unfolding interval
    own_spans d = has_spans k good b hb (embed k b p) own d

    span_before : Spans (cuts k a) (coord m a - 1) (coord there a)
    span_before =
        let e : suc (coord m a - 1) ≡ coord m a = omega (arith, later) in
        let f : high_end (cuts k a) (coord m a - 1) ≡ low_end (cuts k a) (coord m a) =
        cut_ends (coord k.extents a) (cuts k a) (cut_on k good a) (coord m a - 1) (omega (arith, later, listed k b hb a, interval_is k b a)) ∙ ap (low_end (cuts k a)) e in
        let u : low_end (cuts k a) (coord m a - 1) ≤ high_end (cuts k a) (coord m a - 1) = (cut_interval (coord k.extents a) (cuts k a) (cut_on k good a) (coord m a - 1) (omega (arith, later, listed k b hb a, interval_is k b a))).upward in
        let x : coord there a ≡ 2 * low_end (cuts k a) (coord m a) + coord here a = there_on a ∙ ap (λ (n : ℕ). 2 * low_end (cuts k a) n + coord here a) (interval_is k b a) in
        record {
          above = omega (arith, early, start_on a);
          below = omega (arith, early, start_on a);
        }

    spans_at : (d : Axis) → Spans (cuts k d) (coord (lowered a m) d) (coord there d)
    unfolding lowered
    spans_at = at a span_before
      where
        at : (a : Axis) → Spans (cuts k a) (coord m a - 1) (coord there a) → (d : Axis) → Spans (cuts k d) (coord (lowered a m) d) (coord there d)
        at X s = elim [ X ↦ s | Y ↦ own_spans Y | Z ↦ own_spans Z ]
        at Y s = elim [ X ↦ own_spans X | Y ↦ s | Z ↦ own_spans Z ]
        at Z s = elim [ X ↦ own_spans X | Y ↦ own_spans Y | Z ↦ s ]

    has_before : has_cell k before there ≡ true
    has_before =
        block_has_cell k good before before_in (embed k b p)
        (spans_has k good before before_in (embed k b p)
        (λ d. subst (λ (i : ℕ). Spans (cuts k d) i (coord there d)) (sym (interval_at k (lowered a m) (lowered_inside (block_sides k) m a m_in) d)) (spans_at d)))

    lowest_early : lowest_block k there < b
    lowest_early = omega (arith, lowest_le k there before before_in has_before, lowered_add (block_sides k) m a later, stride_pos (block_sides k) m m_in a, index_place (block_sides k) b)

  -- ---- both
  ne_late : (a : Axis) → leb (coord (starts k b) a) (coord here a) ≡ false → false ≡ eqb (lowest_block k there) b
  ne_late a t = sym (ne_eqb (lowest_block k there) b (λ e. omega (arith, lowest_early a (leb-false _ _ t))))

  pub own_lowest : own_cell k b p ≡ is_lowest k b p
  unfolding own_cell is_lowest starts_by
  own_lowest =
      by_test (leb (starts k b).x here.x)
      (λ x.
      by_test (leb (starts k b).y here.y)
      (λ y.
      by_test (leb (starts k b).z here.z)
      (λ z. rw (x, y, z) (sym (eq-eqb (lowest_block k there) b (lowest_late (elim [ X ↦ leb-true _ _ x | Y ↦ leb-true _ _ y | Z ↦ leb-true _ _ z ])))))
      (λ z. rw (x, y, z) (ne_late Z z)))
      (λ y. rw (x, y) (ne_late Y y)))
      (λ x. rw x (ne_late X x))

-- ---- the code

pub start_is : (cx cy : List ℕ) (b w h x y z : ℕ) → w ≡ intervals cx → h ≡ intervals cy → x ≡ min 1 (b % w) → y ≡ min 1 (b / w % h) → z ≡ min 1 (b / w / h)
    → AnyDepth cx cy (λ k. triple x y z ≡ starts k b)
unfolding starts interval place block_sides
start_is cx cy b w h x y z e f p q r n cz = rw (p, q, r, e, f, div-div-eq-div-mul b (intervals cx) (intervals cy))
