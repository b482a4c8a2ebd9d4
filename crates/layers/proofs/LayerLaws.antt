-- The cells that the two blocks of a seam share are those of its layer.
-- Assumes nothing.
use mathlib.Core.Bool.{Bool, cond, true}
use mathlib.Core.List.Memᴰ
use mathlib.Core.List.{List, Memᴰ, [], ◌∷◌, map}
use mathlib.Core.Logic.{◌⊎◌, inl, inr}
use mathlib.Core.Path.{◌∙◌, ◌≡◌, ap, ap₂, refl, subst, sym}
use Prim.Native.Nat.{◌*◌, ◌+◌, ◌-◌, ◌<◌, ◌≤◌, suc, zero, ℕ}
use native.Mathlib.Omega.{arith}
use lib.Dec.{eqb}
use Rattle.lists.specs.Lists.{consecutive, some_of}
use Rattle.closure.specs.Joined.{Edge, edge}
use Rattle.cells.specs.Box.{coord, index, place, volume}
use Rattle.cells.specs.declared.Axis.{Axis}
use Rattle.cells.specs.declared.Axis.TheVariants.{X, Y, Z}
use Rattle.cells.specs.declared.Triple.{Triple}
use Rattle.cells.specs.Grid.{cells, sides}
use Rattle.cutting.specs.Cutting.{Cutting, block_extents, block_sides, blocks, cuts, embed, good_cut, high_end, interval, intervals, low_end, origin, seam}
use Rattle.joiner.specs.Stages.{seam_axis, shared}
use Rattle.layers.specs.Layers.{across, axis_of, cell_pair, columns_of, first_across, last_at, layer_pairs, pairs_in, row_pairs, rows_of}
use Rattle.lists.proofs.Lists.{consecutive_in, consecutive_out}
use Rattle.lists.proofs.Tests.{some_same}
use Rattle.cells.proofs.BoxLaws.{Inside, index_inside, index_place, place_index, place_inside, same_triple}
use Rattle.cells.proofs.GridLaws.{side_on}
use Rattle.cutting.proofs.CutLaws.{block_sides_on, cut_on, embed_at, extent_on, interval_is, its_interval, origin_on, shift_into, shift_inside, shift_on}
use Rattle.cutting.proofs.SeamLaws.{cut_ends}
use Rattle.joiner.proofs.SeamSteps.{Axes, axis_bound, seam_axes}
use Rattle.joiner.proofs.Shared.{Shares, seam_listed, shared_in, shared_out}

-- ---- lists

pairs_in_lem : (e f : Triple) (a : Axis) (vs : List ℕ) {u v : ℕ} → Memᴰ v vs → u < columns_of (sides e) a → Memᴰ (cell_pair e f a u v) (pairs_in e f a vs)
unfolding pairs_in row_pairs
pairs_in_lem e f a [] m h = absurd (Memᴰ.not-nil m)
pairs_in_lem e f a (w ∷ vs) {u} {v} m h = go (Memᴰ.cases_cons m) (λ k. pairs_in_lem e f a vs k h)
  where
    go : (v ≡ w) ⊎ Memᴰ v vs → (Memᴰ v vs → Memᴰ (cell_pair e f a u v) (pairs_in e f a vs)) → Memᴰ (cell_pair e f a u v) (pairs_in e f a (w ∷ vs))
    go (inl q) ih = Memᴰ.append_left (pairs_in e f a vs) (subst (λ (x : ℕ). Memᴰ (cell_pair e f a u v) (map (λ u. cell_pair e f a u x) (consecutive 0 (columns_of (sides e) a)))) q (Memᴰ.map (λ u. cell_pair e f a u v) (consecutive_in 0 (columns_of (sides e) a) (omega arith) (omega (arith, h)))))
    go (inr k) ih = Memᴰ.append_right (row_pairs e f a w) (ih k)

-- a pair of the layer, by column and row
pub record OnLayer (e f : Triple) (a : Axis) (d : Edge) : Type 0 where
  pub u : ℕ
  pub v : ℕ
  pub column : u < columns_of (sides e) a
  pub row : v < rows_of (sides e) a
  pub is : cell_pair e f a u v ≡ d

pairs_out : (e f : Triple) (a : Axis) (n : ℕ) (vs : List ℕ) → ((v : ℕ) → Memᴰ v vs → v < n) → {d : Edge} → Memᴰ d (pairs_in e f a vs) → (u : ℕ) × (v : ℕ) × (u < columns_of (sides e) a) × (v < n) × (cell_pair e f a u v ≡ d)
unfolding pairs_in row_pairs
pairs_out e f a n [] h m = absurd (Memᴰ.not-nil m)
pairs_out e f a n (w ∷ vs) h {d} m = go (Memᴰ.append_cases (row_pairs e f a w) m) (λ k. pairs_out e f a n vs (λ v i. h v (Memᴰ.tail i)) k)
  where
    go : Memᴰ d (map (λ u. cell_pair e f a u w) (consecutive 0 (columns_of (sides e) a))) ⊎ Memᴰ d (pairs_in e f a vs) → (Memᴰ d (pairs_in e f a vs) → (u : ℕ) × (v : ℕ) × (u < columns_of (sides e) a) × (v < n) × (cell_pair e f a u v ≡ d))
        → (u : ℕ) × (v : ℕ) × (u < columns_of (sides e) a) × (v < n) × (cell_pair e f a u v ≡ d)
    go (inl k) ih =
        let r = Memᴰ.of_map (λ u. cell_pair e f a u w) (consecutive 0 (columns_of (sides e) a)) k in
        (r.0, w, omega (arith, consecutive_out 0 (columns_of (sides e) a) r.1), h w (Memᴰ.head refl), r.2)
    go (inr k) ih = ih k

module _ (e f : Triple) (a : Axis) where
  pub layer_in : (u v : ℕ) → u < columns_of (sides e) a → v < rows_of (sides e) a → Memᴰ (cell_pair e f a u v) (layer_pairs e f a)
  unfolding layer_pairs
  layer_in u v hu hv = pairs_in_lem e f a (consecutive 0 (rows_of (sides e) a)) (consecutive_in 0 (rows_of (sides e) a) (omega arith) (omega (arith, hv))) hu

  pub layer_out : {d : Edge} → Memᴰ d (layer_pairs e f a) → OnLayer e f a d
  unfolding layer_pairs
  layer_out m =
      let r = pairs_out e f a (rows_of (sides e) a) (consecutive 0 (rows_of (sides e) a)) (λ v i. omega (arith, consecutive_out 0 (rows_of (sides e) a) i)) m in
      record { u = r.0; v = r.1; column = r.2; row = r.3; is = r.4 }

-- ---- the two blocks of a seam

-- 1 along the axis, 0 along the others
abbrev pub step_on : Axis → Axis → ℕ
step_on X X = 1
step_on X Y = 0
step_on X Z = 0
step_on Y X = 0
step_on Y Y = 1
step_on Y Z = 0
step_on Z X = 0
step_on Z Y = 0
step_on Z Z = 1

-- block c follows block b along axis a, and is level with it along the others
pub record Follows (k : Cutting) (b c : ℕ) (a : Axis) : Type 0 where
  pub lower_in : b < blocks k
  pub upper_in : c < blocks k
  pub on : (d : Axis) → interval k c d ≡ interval k b d + step_on a d

pub seam_follows : (k : Cutting) (b c : ℕ) → seam k b c ≡ true → Follows k b c (axis_of (seam_axis k b c))
unfolding axis_of
seam_follows k b c z =
    let l = seam_listed k b c z in
    let x : Axes k b c (seam_axis k b c) = seam_axes k b c z in
    record { lower_in = l.0; upper_in = l.1; on = go (seam_axis k b c) (axis_bound k b c) x }
  where
    go : (n : ℕ) → (0 < n) × (n ≤ 3) → Axes k b c n → (d : Axis) → interval k c d ≡ interval k b d + step_on (cond (eqb n 1) X (cond (eqb n 2) Y Z)) d
    go zero h x d = absurd (omega (arith, h))
    go (suc zero) h x X = x.on_x ∙ omega arith
    go (suc zero) h x Y = x.on_y ∙ omega arith
    go (suc zero) h x Z = x.on_z ∙ omega arith
    go (suc (suc zero)) h x X = x.on_x ∙ omega arith
    go (suc (suc zero)) h x Y = x.on_y ∙ omega arith
    go (suc (suc zero)) h x Z = x.on_z ∙ omega arith
    go (suc (suc (suc zero))) h x X = x.on_x ∙ omega arith
    go (suc (suc (suc zero))) h x Y = x.on_y ∙ omega arith
    go (suc (suc (suc zero))) h x Z = x.on_z ∙ omega arith
    go (suc (suc (suc (suc n)))) h x d = absurd (omega (arith, h))

module _ (k : Cutting) (good : good_cut k ≡ true) (b c : ℕ) (a : Axis) (F : Follows k b c a) where
  G : Triple
  G = block_extents k c

  -- along an axis on which c follows, it begins where b ends; along another both have the same interval
  record On (d : Axis) (t : ℕ) : Type 0 where
    begins : coord (origin k c) d ≡ coord (origin k b) d + t * (coord (block_extents k b) d - 1)
    sized : t ≡ 0 → coord (block_extents k c) d ≡ coord (block_extents k b) d

  on_axis : (d : Axis) (t : ℕ) → t ≤ 1 → interval k c d ≡ interval k b d + t → On d t
  on_axis d zero h e =
      let q : interval k c d ≡ interval k b d = e ∙ omega arith in
      record {
        begins = origin_on k c d ∙ ap (low_end (cuts k d)) q ∙ sym (origin_on k b d) ∙ omega arith;
        sized = λ z. extent_on k c d ∙ ap (λ (i : ℕ). high_end (cuts k d) i - low_end (cuts k d) i + 1) q ∙ sym (extent_on k b d);
      }
  on_axis d (suc zero) h e =
      let q : interval k c d ≡ suc (interval k b d) = e ∙ omega arith in
      let i : interval k c d < intervals (cuts k d) = omega (arith, interval_is k c d, block_sides_on k d, place_inside (block_sides k) c (in_blocks c F.upper_in) d) in
      let m : high_end (cuts k d) (interval k b d) ≡ low_end (cuts k d) (suc (interval k b d)) = cut_ends (coord k.extents d) (cuts k d) (cut_on k good d) (interval k b d) (omega (arith, q, i)) in
      let v = its_interval k good b F.lower_in d in
      record {
        begins = origin_on k c d ∙ ap (low_end (cuts k d)) q ∙ sym m ∙ omega (arith, origin_on k b d, extent_on k b d, v.upward);
        sized = λ z. absurd (omega arith);
      }
    where
      in_blocks : (x : ℕ) → x < blocks k → x < volume (block_sides k)
      in_blocks x h = unfold blocks in h
  on_axis d (suc (suc t)) h e = absurd (omega arith)

  step_one : (d : Axis) → step_on a d ≤ 1
  step_one d = go a d
    where
      go : (a d : Axis) → step_on a d ≤ 1
      go X X = omega arith
      go X Y = omega arith
      go X Z = omega arith
      go Y X = omega arith
      go Y Y = omega arith
      go Y Z = omega arith
      go Z X = omega arith
      go Z Y = omega arith
      go Z Z = omega arith

  at : (d : Axis) → On d (step_on a d)
  at d = on_axis d (step_on a d) (step_one d) (F.on d)

-- ---- places across an axis

pub inside_last : (a : Axis) (s : Triple) (u v : ℕ) → 0 < coord s a → u < columns_of s a → v < rows_of s a → Inside s (across a (coord s a - 1) u v)
inside_last X s u v h hu hv = elim [ X ↦ omega arith | Y ↦ hu | Z ↦ hv ]
inside_last Y s u v h hu hv = elim [ X ↦ hu | Y ↦ omega arith | Z ↦ hv ]
inside_last Z s u v h hu hv = elim [ X ↦ hu | Y ↦ hv | Z ↦ omega arith ]

inside_first : (a : Axis) (r s : Triple) (u v : ℕ) → ((d : Axis) → step_on a d ≡ 0 → coord s d ≡ coord r d) → 0 < coord s a → u < columns_of r a → v < rows_of r a → Inside s (across a 0 u v)
inside_first X r s u v e h hu hv = elim [ X ↦ h | Y ↦ omega (arith, e Y refl) | Z ↦ omega (arith, e Z refl) ]
inside_first Y r s u v e h hu hv = elim [ X ↦ omega (arith, e X refl) | Y ↦ h | Z ↦ omega (arith, e Z refl) ]
inside_first Z r s u v e h hu hv = elim [ X ↦ omega (arith, e X refl) | Y ↦ omega (arith, e Y refl) | Z ↦ h ]

-- a place is across an axis
abbrev across_at : (a : Axis) (c : Triple) → (u : ℕ) × (v : ℕ) × (c ≡ across a (coord c a) u v)
across_at X c = (c.y, c.z, refl)
across_at Y c = (c.x, c.z, refl)
across_at Z c = (c.x, c.y, refl)

-- columns and rows of a place inside
across_inside : (a : Axis) (s : Triple) (t u v : ℕ) → Inside s (across a t u v) → (u < columns_of s a) × (v < rows_of s a)
across_inside X s t u v i = (i Y, i Z)
across_inside Y s t u v i = (i X, i Z)
across_inside Z s t u v i = (i X, i Y)

-- the same cell of the volume: o and q are the two origins, m the voxels of the lower block along each axis
meets_at : (a : Axis) (o q m : Axis → ℕ) (u v : ℕ) → ((d : Axis) → q d ≡ o d + step_on a d * (m d - 1)) → ((d : Axis) → 0 < m d) → (d : Axis) → 2 * o d + coord (across a (2 * m a - 1 - 1) u v) d ≡ 2 * q d + coord (across a 0 u v) d
meets_at X o q m u v h p = elim [ X ↦ omega (arith, h X, p X) | Y ↦ omega (arith, h Y) | Z ↦ omega (arith, h Z) ]
meets_at Y o q m u v h p = elim [ X ↦ omega (arith, h X) | Y ↦ omega (arith, h Y, p Y) | Z ↦ omega (arith, h Z) ]
meets_at Z o q m u v h p = elim [ X ↦ omega (arith, h X) | Y ↦ omega (arith, h Y) | Z ↦ omega (arith, h Z, p Z) ]

-- .. and only so
apart_on : (a : Axis) (o q m : Axis → ℕ) (c d : Triple) → ((x : Axis) → q x ≡ o x + step_on a x * (m x - 1)) → ((x : Axis) → 0 < m x) → ((x : Axis) → coord c x < 2 * m x - 1) → ((x : Axis) → 2 * o x + coord c x ≡ 2 * q x + coord d x)
    → (coord c a ≡ 2 * m a - 1 - 1) × (d ≡ across a 0 (across_at a c).0 (across_at a c).1)
apart_on X o q m c d h p i e = (omega (arith, h X, p X, i X, e X), same_triple _ _ (elim [ X ↦ omega (arith, h X, p X, i X, e X) | Y ↦ omega (arith, h Y, e Y) | Z ↦ omega (arith, h Z, e Z) ]))
apart_on Y o q m c d h p i e = (omega (arith, h Y, p Y, i Y, e Y), same_triple _ _ (elim [ X ↦ omega (arith, h X, e X) | Y ↦ omega (arith, h Y, p Y, i Y, e Y) | Z ↦ omega (arith, h Z, e Z) ]))
apart_on Z o q m c d h p i e = (omega (arith, h Z, p Z, i Z, e Z), same_triple _ _ (elim [ X ↦ omega (arith, h X, e X) | Y ↦ omega (arith, h Y, e Y) | Z ↦ omega (arith, h Z, p Z, i Z, e Z) ]))

module _ (k : Cutting) (good : good_cut k ≡ true) (b c : ℕ) (a : Axis) (F : Follows k b c a) where
  abbrev e : Triple
  e = block_extents k b

  abbrev f : Triple
  f = block_extents k c

  begins_at : (d : Axis) → coord (origin k c) d ≡ coord (origin k b) d + step_on a d * (coord e d - 1)
  begins_at d = (at k good b c a F d).begins

  some_voxels : (x : ℕ) (d : Axis) → 0 < coord (block_extents k x) d
  some_voxels x d = omega (arith, extent_on k x d)

  same_sides : (d : Axis) → step_on a d ≡ 0 → coord (sides f) d ≡ coord (sides e) d
  same_sides d z = side_on f d ∙ ap (λ (n : ℕ). 2 * n - 1) ((at k good b c a F d).sized z) ∙ sym (side_on e d)

  last_inside : (u v : ℕ) → u < columns_of (sides e) a → v < rows_of (sides e) a → Inside (sides e) (across a (coord (sides e) a - 1) u v)
  last_inside u v hu hv = inside_last a (sides e) u v (omega (arith, side_on e a, some_voxels b a)) hu hv

  first_inside : (u v : ℕ) → u < columns_of (sides e) a → v < rows_of (sides e) a → Inside (sides f) (across a 0 u v)
  first_inside u v hu hv = inside_first a (sides e) (sides f) u v same_sides (omega (arith, side_on f a, some_voxels c a)) hu hv

  -- a pair of the layer is shared
  pub layer_shares : (u v : ℕ) → u < columns_of (sides e) a → v < rows_of (sides e) a → Shares k b c (last_at e a u v) (first_across f a u v)
  unfolding last_at first_across cells
  layer_shares u v hu hv =
      let i = last_inside u v hu hv in
      let j = first_inside u v hu hv in
      record {
        p_in = index_inside (sides e) (across a (coord (sides e) a - 1) u v) i;
        q_in = index_inside (sides f) (across a 0 u v) j;
        one_cell = embed_at k good b F.lower_in (across a (coord (sides e) a - 1) u v) i
            ∙ ap (index (sides k.extents)) (same_triple _ _ (λ d.
            shift_on k b (across a (coord (sides e) a - 1) u v) d
            ∙ ap (λ (n : ℕ). 2 * coord (origin k b) d + coord (across a (n - 1) u v) d) (side_on e a)
            ∙ meets_at a (coord (origin k b)) (coord (origin k c)) (coord e) u v begins_at (some_voxels b) d
            ∙ sym (shift_on k c (across a 0 u v) d)))
            ∙ sym (embed_at k good c F.upper_in (across a 0 u v) j);
      }

  -- a shared pair is one of the layer
  pub shares_layer : (p q : ℕ) → Shares k b c p q → OnLayer e f a (edge p q)
  unfolding cell_pair last_at first_across embed shift_into cells
  shares_layer p q S =
      record {
        u = r.0;
        v = r.1;
        column = w.0;
        row = w.1;
        is = ap₂ edge (ap (λ (n : ℕ). index (sides e) (across a n r.0 r.1)) (ap (λ (n : ℕ). n - 1) (side_on e a) ∙ sym z.0) ∙ ap (index (sides e)) (sym r.2) ∙ index_place (sides e) p)
            (ap (index (sides f)) (sym z.1) ∙ index_place (sides f) q);
      }
    where
      C : Triple
      C = place (sides e) p

      D : Triple
      D = place (sides f) q

      C_in : Inside (sides e) C
      C_in = place_inside (sides e) p S.p_in

      D_in : Inside (sides f) D
      D_in = place_inside (sides f) q S.q_in

      r : (u : ℕ) × (v : ℕ) × (C ≡ across a (coord C a) u v)
      r = across_at a C

      w : (r.0 < columns_of (sides e) a) × (r.1 < rows_of (sides e) a)
      w = across_inside a (sides e) (coord C a) r.0 r.1 (subst (Inside (sides e)) r.2 C_in)

      -- the place in the volume, from either block
      place_of : (x : ℕ) (hx : x < blocks k) (t : Triple) → Inside (sides (block_extents k x)) t → (d : Axis) → coord (place (sides k.extents) (index (sides k.extents) (shift_into k x t))) d ≡ 2 * coord (origin k x) d + coord t d
      place_of x hx t i d = let s = shift_inside k good x hx t i in place_index (sides k.extents) (shift_into k x t) (s X) (s Y) d ∙ shift_on k x t d

      meets : (d : Axis) → 2 * coord (origin k b) d + coord C d ≡ 2 * coord (origin k c) d + coord D d
      meets d =
          sym (place_of b F.lower_in C C_in d)
          ∙ ap (λ (x : ℕ). coord (place (sides k.extents) x) d) S.one_cell
          ∙ place_of c F.upper_in D D_in d

      z : (coord C a ≡ 2 * coord e a - 1 - 1) × (D ≡ across a 0 r.0 r.1)
      z = apart_on a (coord (origin k b)) (coord (origin k c)) (coord e) C D begins_at (some_voxels b) (λ x. omega (arith, C_in x, side_on e x)) meets

  -- so the layers differ exactly where the definition says
  pub layer_differs : (test : Edge → Bool) → some_of test (shared k b c) ≡ some_of test (layer_pairs e f a)
  unfolding cell_pair
  layer_differs test =
      some_same test (shared k b c) (layer_pairs e f a)
      (λ d m. let w = shares_layer d.from d.to (shared_out k b c m) in subst (λ (x : Edge). Memᴰ x (layer_pairs e f a)) w.is (layer_in e f a w.u w.v w.column w.row))
      (λ d m. let w = layer_out e f a m in subst (λ (x : Edge). Memᴰ x (shared k b c)) w.is (shared_in k b c (last_at e a w.u w.v) (first_across f a w.u w.v) (layer_shares w.u w.v w.column w.row)))
