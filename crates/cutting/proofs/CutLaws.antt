-- A block's cells in the volume: order and upper neighbours are kept, positions stay in order, and the blocks cover the volume.
-- Assumes nothing.
use mathlib.Core.Path.{◌≡◌, refl, sym, ap, ap₂, ◌∙◌, subst}
use mathlib.Core.Bool.{Bool, true, ◌&&◌, true≢false}
use mathlib.Core.List.{List, [], ◌∷◌, map, map-append}
use Prim.Native.Nat.{ℕ, zero, suc, ◌+◌, ◌-◌, ◌*◌, ◌≤◌, ◌<◌}
use native.Mathlib.Omega.{arith}
use lib.Dec.{eqb, leb, ltb}
use borrow.Author.Tests.{eqb-true, leb-true, leb-false, ltb-true, ltb-false}
use Rattle.cells.specs.Box.{coord, each, stride, index, place}
use Rattle.cells.specs.declared.Axis.{Axis}
use Rattle.cells.specs.declared.Axis.TheVariants.{X, Y, Z}
use Rattle.cells.specs.declared.Triple.{Triple}
use Rattle.cells.specs.Extents.{Sized}
use Rattle.cells.specs.Grid.{sides, cells, parity, order, along, upper_neighbours}
use Rattle.cutting.specs.Cutting.{Cutting, cuts, ascends, cut_list, intervals, low_end, high_end, block_sides, blocks, most_blocks, good_cut, interval, origin, block_extents, embed}
use Rattle.cutting.specs.Nodes.{BlockHas}
use Rattle.lists.proofs.Cases.{by_test, and_first, and_second}
use Rattle.cells.proofs.BoxLaws.{Inside, index_place, place_index, place_inside, index_inside, Before, layer, line, cell, before_index, place_before, raised, lowered, index_raised, index_lowered, coord_each, same_triple}
use Rattle.cells.proofs.GridLaws.{side_on, inside, odd_at, low_side, high_side, raised_inside, lowered_inside}

-- ---- one axis

-- interval i of the cuts of n voxels
pub record Interval (n : ℕ) (c : List ℕ) (i : ℕ) : Type 0 where
  pub upward : low_end c i ≤ high_end c i
  pub width : high_end c i ≤ low_end c i + 63
  pub ends : high_end c i < n

-- the parts of the test
module _ (n c d : ℕ) (l : List ℕ) (t : ascends n c (d ∷ l) ≡ true) where
  near_next : (ltb c d && leb d (c + 63)) ≡ true
  unfolding ascends
  near_next = and_first (ltb c d && leb d (c + 63)) (ascends n d l) t

  pub step_up : c < d
  step_up = ltb-true c d (and_first (ltb c d) (leb d (c + 63)) near_next)

  step_wide : d ≤ c + 63
  step_wide = leb-true d (c + 63) (and_second (ltb c d) (leb d (c + 63)) near_next)

  pub step_rest : ascends n d l ≡ true
  unfolding ascends
  step_rest = and_second (ltb c d && leb d (c + 63)) (ascends n d l) t

ascends_last : (n c : ℕ) (l : List ℕ) → ascends n c l ≡ true → c < n
unfolding ascends
ascends_last n c [] t = omega (arith, eqb-true (suc c) n t)
ascends_last n c (d ∷ l) t =
    omega (arith, step_up n c d l t, ascends_last n d l (step_rest n c d l t))

interval_of : (n c : ℕ) (l : List ℕ) → ascends n c l ≡ true → (i : ℕ) → i < intervals (c ∷ l) → Interval n (c ∷ l) i
unfolding ascends intervals low_end high_end
interval_of n c [] t zero h = record { upward = omega arith; width = omega arith; ends = omega (arith, eqb-true (suc c) n t) }
interval_of n c [] t (suc i) h = absurd (omega arith)
interval_of n c (d ∷ l) t zero h =
    record {
      upward = omega (arith, step_up n c d l t);
      width = step_wide n c d l t;
      ends = ascends_last n d l (step_rest n c d l t);
    }
interval_of n c (d ∷ l) t (suc i) h =
    let r : Interval n (d ∷ l) i = interval_of n d l (step_rest n c d l t) i (omega arith) in
    record { upward = r.upward; width = r.width; ends = r.ends }

-- coordinate x of a cell lies between the ends of interval i
pub record Spans (c : List ℕ) (i x : ℕ) : Type 0 where
  pub above : 2 * low_end c i ≤ x
  pub below : x ≤ 2 * high_end c i

-- an interval that holds a cell's coordinate
record Holds (c : List ℕ) (x : ℕ) : Type 0 where
  i : ℕ
  listed : i < intervals c
  spans : Spans c i x

covered : (n c : ℕ) (l : List ℕ) → ascends n c l ≡ true → (x : ℕ) → 2 * c ≤ x → x < 2 * n - 1 → Holds (c ∷ l) x
unfolding ascends intervals low_end high_end
covered n c [] t x h k = record { i = 0; listed = omega arith; spans = record { above = h; below = omega (arith, eqb-true (suc c) n t) } }
covered n c (d ∷ []) t x h k =
    record { i = 0; listed = omega arith; spans = record { above = h; below = omega (arith, eqb-true (suc d) n (and_second (ltb c d && leb d (c + 63)) (eqb (suc d) n) t)) } }
covered n c (d ∷ f ∷ l) t x h k =
    by_test (leb x (2 * d))
    (λ u. record { i = 0; listed = omega arith; spans = record { above = h; below = leb-true x (2 * d) u } })
    (λ u.
    let g : 2 * d < x = leb-false x (2 * d) u in
    let r : Holds (d ∷ f ∷ l) x = covered n d (f ∷ l) (and_second (ltb c d && leb d (c + 63)) (ascends n d (f ∷ l)) t) x (omega arith) k in
    record { i = suc r.i; listed = omega (arith, r.listed); spans = record { above = r.spans.above; below = r.spans.below } })

pub cut_interval : (n : ℕ) (c : List ℕ) → cut_list n c ≡ true → (i : ℕ) → i < intervals c → Interval n c i
unfolding cut_list
cut_interval n [] t i h = absurd (true≢false (sym t))
cut_interval n (c ∷ l) t i h = interval_of n c l (and_second (eqb c 0) (ascends n c l) t) i h

cut_covers : (n : ℕ) (c : List ℕ) → cut_list n c ≡ true → (x : ℕ) → x < 2 * n - 1 → Holds c x
unfolding cut_list
cut_covers n [] t x h = absurd (true≢false (sym t))
cut_covers n (c ∷ l) t x h = covered n c l (and_second (eqb c 0) (ascends n c l) t) x (omega (arith, eqb-true c 0 (and_first (eqb c 0) (ascends n c l) t))) h

-- ---- three axes

pub cut_on : (k : Cutting) → good_cut k ≡ true → (a : Axis) → cut_list (coord k.extents a) (cuts k a) ≡ true
unfolding good_cut
cut_on k t a = go a
  where
    cx : Bool
    cx = cut_list k.extents.x k.cx

    cy : Bool
    cy = cut_list k.extents.y k.cy

    cz : Bool
    cz = cut_list k.extents.z k.cz

    three : (cx && cy && cz) ≡ true
    three = and_first (cx && cy && cz) (leb (blocks k) most_blocks) t

    go : (a : Axis) → cut_list (coord k.extents a) (cuts k a) ≡ true
    go X = and_first cx cy (and_first (cx && cy) cz three)
    go Y = and_second cx cy (and_first (cx && cy) cz three)
    go Z = and_second (cx && cy) cz three

-- the place in the volume of a place in the block
unfoldable pub shift_into : Cutting → ℕ → Triple → Triple
shift_into k b c = each (λ a. 2 * coord (origin k b) a + coord c a)

pub block_sides_on : (k : Cutting) (a : Axis) → coord (block_sides k) a ≡ intervals (cuts k a)
unfolding block_sides
block_sides_on k a = coord_each (λ a'. intervals (cuts k a')) a

pub interval_is : (k : Cutting) (b : ℕ) (a : Axis) → interval k b a ≡ coord (place (block_sides k) b) a
unfolding interval
interval_is k b a = refl

pub origin_on : (k : Cutting) (b : ℕ) (a : Axis) → coord (origin k b) a ≡ low_end (cuts k a) (interval k b a)
unfolding origin
origin_on k b a = coord_each (λ a'. low_end (cuts k a') (interval k b a')) a

pub extent_on : (k : Cutting) (b : ℕ) (a : Axis) → coord (block_extents k b) a ≡ high_end (cuts k a) (interval k b a) - low_end (cuts k a) (interval k b a) + 1
unfolding block_extents
extent_on k b a = coord_each (λ a'. high_end (cuts k a') (interval k b a') - low_end (cuts k a') (interval k b a') + 1) a

pub shift_on : (k : Cutting) (b : ℕ) (c : Triple) (a : Axis) → coord (shift_into k b c) a ≡ 2 * coord (origin k b) a + coord c a
unfolding shift_into
shift_on k b c a = coord_each (λ a'. 2 * coord (origin k b) a' + coord c a') a

shift_raised : (k : Cutting) (b : ℕ) (c : Triple) (a : Axis) → shift_into k b (raised a c) ≡ raised a (shift_into k b c)
unfolding shift_into raised
shift_raised k b c X = same_triple _ _ (elim [ X ↦ omega arith | Y ↦ refl | Z ↦ refl ])
shift_raised k b c Y = same_triple _ _ (elim [ X ↦ refl | Y ↦ omega arith | Z ↦ refl ])
shift_raised k b c Z = same_triple _ _ (elim [ X ↦ refl | Y ↦ refl | Z ↦ omega arith ])

shift_lowered : (k : Cutting) (b : ℕ) (c : Triple) (a : Axis) → 0 < coord c a → shift_into k b (lowered a c) ≡ lowered a (shift_into k b c)
unfolding shift_into lowered
shift_lowered k b c X h = same_triple _ _ (elim [ X ↦ omega arith | Y ↦ refl | Z ↦ refl ])
shift_lowered k b c Y h = same_triple _ _ (elim [ X ↦ refl | Y ↦ omega arith | Z ↦ refl ])
shift_lowered k b c Z h = same_triple _ _ (elim [ X ↦ refl | Y ↦ refl | Z ↦ omega arith ])

shift_before : (k : Cutting) (b : ℕ) (c d : Triple) → Before c d → Before (shift_into k b c) (shift_into k b d)
unfolding shift_into
shift_before k b c d (layer h) = layer (omega arith)
shift_before k b c d (line e h) = line (omega arith) (omega arith)
shift_before k b c d (cell e f h) = cell (omega arith) (omega arith) (omega arith)

module _ (k : Cutting) (good : good_cut k ≡ true) (b : ℕ) (hb : b < blocks k) where
  pub its_interval : (a : Axis) → Interval (coord k.extents a) (cuts k a) (interval k b a)
  unfolding blocks interval
  its_interval a =
      cut_interval (coord k.extents a) (cuts k a) (cut_on k good a) (interval k b a) (omega (arith, block_sides_on k a, place_inside (block_sides k) b hb a))

  -- a block lies in the volume, and has extents from 1 to 64
  pub block_ends : (a : Axis) → coord (origin k b) a + coord (block_extents k b) a ≤ coord k.extents a
  block_ends a = let v : Interval (coord k.extents a) (cuts k a) (interval k b a) = its_interval a in omega (arith, origin_on k b a, extent_on k b a)

  extent_high : (a : Axis) → coord (block_extents k b) a ≤ 64
  extent_high a = let v : Interval (coord k.extents a) (cuts k a) (interval k b a) = its_interval a in omega (arith, extent_on k b a)

  extent_low : (a : Axis) → 1 ≤ coord (block_extents k b) a
  extent_low a = omega (arith, extent_on k b a)

  pub block_sized : Sized 64 (block_extents k b)
  block_sized = record {
    x_low = extent_low X;
    y_low = extent_low Y;
    z_low = extent_low Z;
    x_high = extent_high X;
    y_high = extent_high Y;
    z_high = extent_high Z;
  }

  -- a block's cell is a cell of the volume
  pub shift_inside : (c : Triple) → Inside (sides (block_extents k b)) c → Inside (sides k.extents) (shift_into k b c)
  shift_inside c i a =
      let v : Interval (coord k.extents a) (cuts k a) (interval k b a) = its_interval a in
      omega (arith, shift_on k b c a, origin_on k b a, i a, side_on (block_extents k b) a, extent_on k b a, side_on k.extents a)

  -- the place of a position, in the block and in the volume
  pub embed_at : (c : Triple) → Inside (sides (block_extents k b)) c → embed k b (index (sides (block_extents k b)) c) ≡ index (sides k.extents) (shift_into k b c)
  unfolding embed shift_into
  embed_at c i = ap (λ (d : Triple). index (sides k.extents) (shift_into k b d)) (same_triple _ _ (place_index (sides (block_extents k b)) c (i X) (i Y)))

  module _ (p : ℕ) (hp : p < cells (block_extents k b)) where
    place_in : Inside (sides (block_extents k b)) (place (sides (block_extents k b)) p)
    place_in = inside (block_extents k b) p hp

    pub embed_inside : embed k b p < cells k.extents
    unfolding embed cells shift_into
    embed_inside = index_inside (sides k.extents) (shift_into k b (place (sides (block_extents k b)) p)) (shift_inside (place (sides (block_extents k b)) p) place_in)

    pub embed_odd : (a : Axis) → parity k.extents (embed k b p) a ≡ parity (block_extents k b) p a
    unfolding embed shift_into parity
    embed_odd a =
        odd_at k.extents (shift_into k b (place (sides (block_extents k b)) p)) (shift_inside (place (sides (block_extents k b)) p) place_in) a
        ∙ omega (arith, shift_on k b (place (sides (block_extents k b)) p) a)

    pub embed_order : order k.extents (embed k b p) ≡ order (block_extents k b) p
    unfolding order
    embed_order = rw (embed_odd X, embed_odd Y, embed_odd Z)

    pub embed_add : (a : Axis) → 0 < parity (block_extents k b) p a → embed k b (p + stride (sides (block_extents k b)) a) ≡ embed k b p + stride (sides k.extents) a
    unfolding embed shift_into
    embed_add a o =
        let c : Triple = place (sides (block_extents k b)) p in
        ap (embed k b) (sym (index_raised (sides (block_extents k b)) c a ∙ ap (λ (n : ℕ). n + stride (sides (block_extents k b)) a) (index_place (sides (block_extents k b)) p)))
        ∙ embed_at (raised a c) (raised_inside (sides (block_extents k b)) c a place_in (high_side (block_extents k b) p a hp o))
        ∙ ap (index (sides k.extents)) (shift_raised k b c a)
        ∙ index_raised (sides k.extents) (shift_into k b c) a

    pub embed_sub : (a : Axis) → 0 < parity (block_extents k b) p a → embed k b (p - stride (sides (block_extents k b)) a) ≡ embed k b p - stride (sides k.extents) a
    unfolding embed shift_into
    embed_sub a o =
        let c : Triple = place (sides (block_extents k b)) p in
        let l : 0 < coord c a = low_side (block_extents k b) p a o in
        ap (embed k b) (sym (index_lowered (sides (block_extents k b)) c a l ∙ ap (λ (n : ℕ). n - stride (sides (block_extents k b)) a) (index_place (sides (block_extents k b)) p)))
        ∙ embed_at (lowered a c) (lowered_inside (sides (block_extents k b)) c a place_in)
        ∙ ap (index (sides k.extents)) (shift_lowered k b c a l)
        ∙ index_lowered (sides k.extents) (shift_into k b c) a (omega (arith, shift_on k b c a))

map-along : (f : ℕ → ℕ) (n p t u : ℕ) → (0 < n → f (p - t) ≡ f p - u) → (0 < n → f (p + t) ≡ f p + u) → map f (along n p t) ≡ along n (f p) u
unfolding along
map-along f zero p t u g h = refl
map-along f (suc n) p t u g h = ap₂ {C = List ℕ} (λ a b. a ∷ b ∷ []) (g (omega arith)) (h (omega arith))

module _ (k : Cutting) (good : good_cut k ≡ true) (b : ℕ) (hb : b < blocks k) where
  -- the upper neighbours of a block's cell are those that the cell has in the volume
  pub embed_up : (p : ℕ) → p < cells (block_extents k b) → map (embed k b) (upper_neighbours (block_extents k b) p) ≡ upper_neighbours k.extents (embed k b p)
  unfolding upper_neighbours
  embed_up p h =
      let on : (a : Axis) → map (embed k b) (along (parity (block_extents k b) p a) p (stride (sides (block_extents k b)) a)) ≡ along (parity k.extents (embed k b p) a) (embed k b p) (stride (sides k.extents) a) =
      λ a. rw (embed_odd k good b hb p h a) (map-along (embed k b) (parity (block_extents k b) p a) p (stride (sides (block_extents k b)) a) (stride (sides k.extents) a) (embed_sub k good b hb p h a) (embed_add k good b hb p h a)) in
      simp (map-append, on X, on Y, on Z)

  pub embed_less : (p q : ℕ) → p < q → q < cells (block_extents k b) → embed k b p < embed k b q
  unfolding embed shift_into cells
  embed_less p q l h =
      let s : Triple = sides (block_extents k b) in
      let i : Inside (sides k.extents) (shift_into k b (place s p)) = shift_inside k good b hb (place s p) (place_inside s p (omega arith)) in
      before_index (sides k.extents) (shift_into k b (place s p)) (shift_into k b (place s q)) (i X) (i Y) (shift_before k b (place s p) (place s q) (place_before s p q l h))

  pub embed_le : (p q : ℕ) → p ≤ q → q < cells (block_extents k b) → embed k b p ≤ embed k b q
  embed_le p q l h =
      by_test (ltb p q) (λ t. omega (arith, embed_less p q (ltb-true p q t) h)) (λ t. let e : p ≡ q = omega (arith, ltb-false p q t) in rw e (omega arith))

  pub embed_same : (p q : ℕ) → p < cells (block_extents k b) → q < cells (block_extents k b) → embed k b p ≡ embed k b q → p ≡ q
  embed_same p q hp hq e =
      by_test (ltb p q) (λ t. absurd (omega (arith, embed_less p q (ltb-true p q t) hq)))
      (λ t. by_test (ltb q p) (λ u. absurd (omega (arith, embed_less q p (ltb-true q p u) hp))) (λ u. omega (arith, ltb-false p q t, ltb-false q p u)))

-- ---- a place of the volume that lies in a block

module _ (k : Cutting) (good : good_cut k ≡ true) (b : ℕ) (hb : b < blocks k) (c : Triple) where
  -- its place in the block
  abbrev pub local_place : Triple
  local_place = each (λ a. coord c a - 2 * coord (origin k b) a)

  pub local_in_block : ((a : Axis) → 2 * coord (origin k b) a ≤ coord c a) → ((a : Axis) → coord c a < 2 * coord (origin k b) a + coord (sides (block_extents k b)) a)
      → (index (sides (block_extents k b)) local_place < cells (block_extents k b)) × (embed k b (index (sides (block_extents k b)) local_place) ≡ index (sides k.extents) c)
  unfolding cells
  local_in_block low high = (index_inside s local_place d_in, embed_at k good b hb local_place d_in ∙ ap (index (sides k.extents)) back)
    where
      s : Triple
      s = sides (block_extents k b)

      d_is : (a : Axis) → coord local_place a ≡ coord c a - 2 * coord (origin k b) a
      d_is a = coord_each (λ a'. coord c a' - 2 * coord (origin k b) a') a

      d_in : Inside s local_place
      d_in a = omega (arith, d_is a, low a, high a)

      back : shift_into k b local_place ≡ c
      back = same_triple (shift_into k b local_place) c (λ a. omega (arith, shift_on k b local_place a, d_is a, low a))

-- ---- which block holds which cell of the volume

module _ (k : Cutting) (good : good_cut k ≡ true) (b : ℕ) (hb : b < blocks k) (t : ℕ) where
  pub has_spans : BlockHas k b t → (a : Axis) → Spans (cuts k a) (interval k b a) (coord (place (sides k.extents) t) a)
  unfolding embed shift_into
  has_spans r a =
      let c : Triple = place (sides (block_extents k b)) r.p in
      let i : Inside (sides (block_extents k b)) c = inside (block_extents k b) r.p r.within in
      let j : Inside (sides k.extents) (shift_into k b c) = shift_inside k good b hb c i in
      let x : coord (place (sides k.extents) t) a ≡ 2 * low_end (cuts k a) (interval k b a) + coord c a =
      ap (λ (n : ℕ). coord (place (sides k.extents) n) a) (sym r.is)
      ∙ place_index (sides k.extents) (shift_into k b c) (j X) (j Y) a
      ∙ shift_on k b c a
      ∙ ap (λ (n : ℕ). 2 * n + coord c a) (origin_on k b a) in
      record {
        above = omega arith;
        below = omega (arith, i a, side_on (block_extents k b) a, extent_on k b a, (its_interval k good b hb a).upward);
      }

  pub spans_has : ((a : Axis) → Spans (cuts k a) (interval k b a) (coord (place (sides k.extents) t) a)) → BlockHas k b t
  spans_has r =
      let c : Triple = place (sides k.extents) t in
      let h = local_in_block k good b hb c (λ a. omega (arith, origin_on k b a, (r a).above)) (λ a. omega (arith, origin_on k b a, extent_on k b a, side_on (block_extents k b) a, (r a).above, (r a).below)) in
      record { p = index (sides (block_extents k b)) (local_place k good b hb c); within = h.0; is = h.1 ∙ index_place (sides k.extents) t }

-- the block at a place of the grid of blocks
pub block_in : (k : Cutting) (at : Triple) → Inside (block_sides k) at → index (block_sides k) at < blocks k
unfolding blocks
block_in k at i = index_inside (block_sides k) at i

pub interval_at : (k : Cutting) (at : Triple) → Inside (block_sides k) at → (a : Axis) → interval k (index (block_sides k) at) a ≡ coord at a
interval_at k at i a = interval_is k (index (block_sides k) at) a ∙ place_index (block_sides k) at (i X) (i Y) a

pub record InBlock (k : Cutting) (t : ℕ) : Type 0 where
  pub b : ℕ
  pub listed : b < blocks k
  pub has : BlockHas k b t

-- every cell of the volume is a cell of a block
pub blocks_cover : (k : Cutting) → good_cut k ≡ true → (t : ℕ) → t < cells k.extents → InBlock k t
blocks_cover k good t h = record { b = index (block_sides k) at; listed = block_in k at at_in; has = spans_has k good (index (block_sides k) at) (block_in k at at_in) t spans }
  where
    x : Axis → ℕ
    x a = coord (place (sides k.extents) t) a

    r : (a : Axis) → Holds (cuts k a) (x a)
    r a = cut_covers (coord k.extents a) (cuts k a) (cut_on k good a) (x a) (omega (arith, side_on k.extents a, inside k.extents t h a))

    at : Triple
    at = each (λ a. (r a).i)

    at_in : Inside (block_sides k) at
    at_in a = rw (coord_each (λ a'. (r a').i) a, block_sides_on k a) (r a).listed

    spans : (a : Axis) → Spans (cuts k a) (interval k (index (block_sides k) at) a) (x a)
    spans a = subst (λ (i : ℕ). Spans (cuts k a) i (x a)) (sym (interval_at k at at_in a ∙ coord_each (λ a'. (r a').i) a)) (r a).spans
