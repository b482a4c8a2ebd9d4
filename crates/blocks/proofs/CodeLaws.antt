-- What the functions of this crate find on each of their ways.
-- Assumes nothing.
use mathlib.Core.Path.{◌≡◌, refl, sym, ◌∙◌}
use mathlib.Core.Bool.{Bool, true, false, not, cond, ◌&&◌}
use mathlib.Core.List.{List, [], ◌∷◌}
use Prim.Native.Nat.{ℕ, zero, suc, ◌+◌, ◌-◌, ◌*◌, ◌/◌, ◌%◌, ◌≤◌, ◌<◌}
use native.Mathlib.Nat.{mul-le-mul, mul-pos, mul_comm, div-lt_iff_lt-mul, div-div-eq-div-mul}
use native.Mathlib.Numerals.{add-one}
use native.Mathlib.Omega.{arith}
use lib.Dec.{eqb, leb, ltb}
use lib.ListN.{length, get_or, drop, drop_of_length-le, get_or-eq_default}
use lib.Seq.{drop-cons}
use borrow.Author.Tests.{ltb-true, not-true, not-false, lt-ltb, le-leb, eq-eqb, ne_eqb}
use Rattle.lists.proofs.Lists.{past}
use Rattle.lists.proofs.Cases.{same_test}
use Rattle.cells.specs.Box.{triple, volume, place}
use Rattle.cells.specs.declared.Triple.{Triple}
use Rattle.cells.specs.declared.Axis.TheVariants.{X, Y, Z}
use Rattle.cutting.specs.Cutting.{Cutting, ascends, cut_list, intervals, low_end, high_end, block_sides, blocks, interval, origin, block_extents, follows, same_interval, seam, most_blocks, FewBlocks}
use Rattle.joiner.specs.Stages.{seam_axis}
use Rattle.blocks.specs.Blocks.{AnyExtents, Tells, cut_by, side_of, place_of, beside}
use Rattle.blocks.specs.declared.Cuts.{Cuts}
use Rattle.blocks.specs.declared.Side.{Side}

-- ---- a cut list

module _ (n : ℕ) (c : List ℕ) where
  pub cut_none : length c ≡ 0 → false ≡ cut_list n c
  unfolding cut_list
  cut_none e = go c e
    where
      go : (l : List ℕ) → length l ≡ 0 → false ≡ cut_list n l
      go [] e' = refl
      go (x ∷ l) e' = absurd (omega arith)

  cut_is : (length c ≡ 0 → ⊥) → cut_list n c ≡ (eqb (get_or c 0 0) 0 && ascends n (get_or c 0 0) (drop 1 c))
  unfolding cut_list
  cut_is h = go c h
    where
      go : (l : List ℕ) → (length l ≡ 0 → ⊥) → cut_list n l ≡ (eqb (get_or l 0 0) 0 && ascends n (get_or l 0 0) (drop 1 l))
      go [] h' = absurd (h' refl)
      go (x ∷ l) h' = refl

  pub cut_first : (length c ≡ 0 → ⊥) → (get_or c 0 0 ≡ 0 → ⊥) → false ≡ cut_list n c
  cut_first h z = sym (cut_is h ∙ rw (ne_eqb (get_or c 0 0) 0 z))

  -- the rule from entry i on
  abbrev pub Same : ℕ → Type 0
  Same i = ascends n (get_or c 0 0) (drop 1 c) ≡ ascends n (get_or c i 0) (drop (suc i) c)

  ascends_next : (i : ℕ) → i < length c - 1
      → ascends n (get_or c i 0) (drop (suc i) c) ≡ ((ltb (get_or c i 0) (get_or c (i + 1) 0) && leb (get_or c (i + 1) 0) (get_or c i 0 + 63)) && ascends n (get_or c (i + 1) 0) (drop (suc (i + 1)) c))
  unfolding ascends
  ascends_next i h = rw (add-one i, drop-cons c (suc i) 0 (omega arith))

  pub cut_far : (i : ℕ) (t : Bool) → (length c ≡ 0 → ⊥) → get_or c 0 0 ≡ 0 → i < length c - 1 → Same i
      → t ≡ (ltb (get_or c i 0) (get_or c (i + 1) 0) && leb (get_or c (i + 1) 0) (get_or c i 0 + 63)) → not t ≡ true → false ≡ cut_list n c
  cut_far i t h z l s e f = sym (cut_is h ∙ rw (eq-eqb (get_or c 0 0) 0 z) (s ∙ ascends_next i l ∙ rw (sym e ∙ not-true t f)))

  pub cut_more : (i : ℕ) (t : Bool) → i < length c - 1 → Same i
      → t ≡ (ltb (get_or c i 0) (get_or c (i + 1) 0) && leb (get_or c (i + 1) 0) (get_or c i 0 + 63)) → not t ≡ false → Same (i + 1)
  cut_more i t l s e f = s ∙ ascends_next i l ∙ rw (sym e ∙ not-false t f)

  pub cut_end : (i : ℕ) (t : Bool) → (length c ≡ 0 → ⊥) → get_or c 0 0 ≡ 0 → i ≤ length c - 1 → length c - 1 ≤ i → Same i
      → t ≡ eqb (suc (get_or c (length c - 1) 0)) n → t ≡ cut_list n c
  unfolding ascends
  cut_end i t h z l m s e =
      let j : i ≡ length c - 1 = omega arith in
      e ∙ sym (cut_is h ∙ rw (eq-eqb (get_or c 0 0) 0 z) (s ∙ rw (drop_of_length-le c {i = suc i} (omega arith), j)))

-- ---- how many blocks

pub intervals_low : (c : List ℕ) → 0 < intervals c
unfolding intervals
intervals_low c = omega arith

pub layer_room : (x y : ℕ) → x ≤ most_blocks → y ≤ most_blocks → x * y ≤ most_blocks * most_blocks
layer_room x y hx hy = mul-le-mul hx hy

pub room : (x y z : ℕ) → x ≤ most_blocks → y ≤ most_blocks → z ≤ most_blocks → x * y * z ≤ most_blocks * most_blocks * most_blocks
room x y z hx hy hz = mul-le-mul (layer_room x y hx hy) hz

pub blocks_are : (k : Cutting) → blocks k ≡ intervals k.cx * intervals k.cy * intervals k.cz
unfolding blocks volume block_sides
blocks_are k = refl

-- x, y and z are the intervals of the lists
module _ (cx cy cz : List ℕ) (x y : ℕ) (ex : x ≡ intervals cx) (ey : y ≡ intervals cy) (h : FewBlocks cx cy cz) where
  pub layer_few : x * y ≤ most_blocks
  layer_few = rw (ex, ey) (omega (arith, mul-le-mul {n₁ = intervals cx * intervals cy} {m₁ = 1} {n₂ = intervals cx * intervals cy} (omega arith) (intervals_low cz)))

  pub count_few : (z : ℕ) → z ≡ intervals cz → x * y * z ≤ most_blocks
  count_few z ez = rw (ex, ey, ez) h

pub count_is : (k : Cutting) (x y z : ℕ) → x ≡ intervals k.cx → y ≡ intervals k.cy → z ≡ intervals k.cz → x * y * z ≡ blocks k
count_is k x y z ex ey ez = rw (ex, ey, ez) (sym (blocks_are k))

-- ---- the place of a block

pub place_is : (w h v g b : ℕ) → w ≡ v → h ≡ g → ◌≡◌ {A = Triple} (record { x = b % w; y = b / w % h; z = b / w / h }) (place_of v g b)
unfolding place_of
place_is w h v g b e f = rw (e, f, div-div-eq-div-mul b v g)

module _ (k : Cutting) where
  -- the place of block b
  at : ℕ → Triple
  at b = place_of (intervals k.cx) (intervals k.cy) b

  at_x : (b : ℕ) → (at b).x ≡ interval k b X
  unfolding at place_of interval place block_sides
  at_x b = refl

  at_y : (b : ℕ) → (at b).y ≡ interval k b Y
  unfolding at place_of interval place block_sides
  at_y b = refl

  at_z : (b : ℕ) → (at b).z ≡ interval k b Z
  unfolding at place_of interval place block_sides
  at_z b = refl

  pub block_there : (b n : ℕ) (p : Triple) → p ≡ place_of (intervals k.cx) (intervals k.cy) b → n ≡ intervals k.cz → ltb p.z n ≡ ltb b (blocks k)
  unfolding place_of
  block_there b n p e f =
      let w : ℕ = intervals k.cx * intervals k.cy in
      let h : 0 < w = mul-pos (intervals_low k.cx) (intervals_low k.cy) in
      let m : w * intervals k.cz ≡ intervals k.cz * w = mul_comm w (intervals k.cz) in
      rw (e, f, blocks_are k)
      (same_test (ltb (b / w) (intervals k.cz)) (ltb b (w * intervals k.cz))
      (λ t. lt-ltb b (w * intervals k.cz) (omega (arith, (div-lt_iff_lt-mul h).0 (ltb-true (b / w) (intervals k.cz) t))))
      (λ t. lt-ltb (b / w) (intervals k.cz) ((div-lt_iff_lt-mul h).1 (omega (arith, ltb-true b (w * intervals k.cz) t)))))

-- ---- one interval

pub high_past : (c : List ℕ) (i : ℕ) → length c ≤ i → 0 ≡ high_end c i
unfolding high_end low_end
high_past c i h = past c i h ∙ sym (get_or-eq_default c (low_end c i) {n = suc i} (omega arith))

-- where there is an entry, what else would be taken does not count
any_rest : (c : List ℕ) (i d : ℕ) → i < length c → get_or c i 0 ≡ get_or c i d
any_rest [] i d h = absurd (omega arith)
any_rest (x ∷ c) zero d h = refl
any_rest (x ∷ c) (suc i) d h = any_rest c i d (omega arith)

pub high_next : (c : List ℕ) (i : ℕ) → i < length c → get_or c (i + 1) (get_or c i 0) ≡ high_end c i
unfolding high_end low_end
high_next c i h = rw (add-one i)

-- ---- a block

pub block_is : (c : Cuts) (b : ℕ) (p : Triple) (x y z : Side) → p ≡ place_of (intervals c.x.now) (intervals c.y.now) b → x ≡ side_of c.x.now p.x → y ≡ side_of c.y.now p.y
    → z ≡ side_of c.z.now p.z → AnyExtents c (λ k. Tells k b (record { origin = triple x.first y.first z.first; size = triple x.size y.size z.size }))
unfolding side_of at origin block_extents
block_is c b p x y z e ex ey ez v =
    let k : Cutting = cut_by v c in
    record { first = rw (ex, ey, ez, e, at_x k b, at_y k b, at_z k b); size = rw (ex, ey, ez, e, at_x k b, at_y k b, at_z k b) }

-- ---- a seam

module _ (k : Cutting) (b c : ℕ) where
  pub seam_is : seam k b c ≡ ((ltb b (blocks k) && ltb c (blocks k)) && beside (place_of (intervals k.cx) (intervals k.cy) b) (place_of (intervals k.cx) (intervals k.cy) c))
  unfolding seam beside follows same_interval place_of interval place block_sides
  seam_is = refl

  pub axis_is : seam_axis k b c
      ≡ (let p = place_of (intervals k.cx) (intervals k.cy) b in let q = place_of (intervals k.cx) (intervals k.cy) c in cond (eqb q.x (suc p.x)) 1 (cond (eqb q.y (suc p.y)) 2 3))
  unfolding seam_axis follows place_of interval place block_sides
  axis_is = refl

-- ---- a coordinate of a cell

pub on_rest : (o n x : ℕ) → o ≤ x / 2 → ltb ((x - 2 * o) / 2 + (x - 2 * o) % 2) n ≡ (leb (2 * o) x && ltb x (2 * o + (2 * n - 1)))
on_rest o n x h =
    rw (le-leb (2 * o) x (omega arith))
    (same_test (ltb ((x - 2 * o) / 2 + (x - 2 * o) % 2) n) (ltb x (2 * o + (2 * n - 1))) (λ t. lt-ltb x (2 * o + (2 * n - 1)) (omega (arith, ltb-true ((x - 2 * o) / 2 + (x - 2 * o) % 2) n t)))
    (λ t. lt-ltb ((x - 2 * o) / 2 + (x - 2 * o) % 2) n (omega (arith, ltb-true x (2 * o + (2 * n - 1)) t))))

-- ---- a position

pub row_room : (w h j : ℕ) → w ≤ 2047 → h ≤ 2047 → j < h → j * w ≤ 2047 * 2047
row_room w h j hw hh hj = mul-le-mul {n₂ = 2047} (omega arith) hw

pub layers_room : (w h k : ℕ) → w ≤ 2047 → h ≤ 2047 → k < 2047 → k * (w * h) ≤ 2047 * (2047 * 2047)
layers_room w h k hw hh hk = mul-le-mul {n₂ = 2047} (omega arith) (mul-le-mul hw hh)
