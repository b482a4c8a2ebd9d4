-- Places and their numbers in a box.
-- Assumes nothing.
use mathlib.Core.Path.{◌≡◌, refl, sym, ap, ◌∙◌}
use Prim.Native.Nat.{ℕ, zero, suc, ◌+◌, ◌-◌, ◌*◌, ◌/◌, ◌<◌}
use native.Mathlib.Nat.{mod-lt, div-add-mod', div-div-eq-div-mul, div-lt_iff_lt-mul, mul_comm, zero-mul, not-suc-le-zero}
use native.Mathlib.Omega.{arith}
use mathlib.Core.Logic.{◌⊎◌, inl, inr}
use lib.Dec.{ltb}
use borrow.Author.Tests.{ltb-true, ltb-false}
use Rattle.lists.proofs.Cases.{by_test}
use lib.Arith.{digits_lt, digits_div, digits_mod}
use Rattle.cells.specs.Box.{triple, coord, each, stride, volume, index, place}
use Rattle.cells.specs.declared.Axis.{Axis}
use Rattle.cells.specs.declared.Axis.TheVariants.{X, Y, Z}
use Rattle.cells.specs.declared.Triple.{Triple}

-- A place that lies in the box.
abbrev pub Inside : Triple → Triple → Type 0
Inside s c = (a : Axis) → coord c a < coord s a

-- ---- a number for each axis

pub coord_each : (f : Axis → ℕ) (a : Axis) → coord (each f) a ≡ f a
coord_each f X = refl
coord_each f Y = refl
coord_each f Z = refl

pub same_triple : (c d : Triple) → ((a : Axis) → coord c a ≡ coord d a) → c ≡ d
same_triple c d h = let hx : c.x ≡ d.x = h X in let hy : c.y ≡ d.y = h Y in let hz : c.z ≡ d.z = h Z in λ i. triple (hx i) (hy i) (hz i)

-- ---- places and positions

pub index_place : (s : Triple) (p : ℕ) → index s (place s p) ≡ p
unfolding index place
index_place s p =
    rw (← div-div-eq-div-mul p s.x s.y)
    (omega (arith, div-add-mod' p s.x, ap (λ (n : ℕ). n * s.x) (div-add-mod' (p / s.x) s.y)))

module _ (s c : Triple) (hx : c.x < s.x) (hy : c.y < s.y) where
  as_row : index s c ≡ (c.z * s.y + c.y) * s.x + c.x
  unfolding index
  as_row = omega arith

  as_layer : index s c ≡ c.z * (s.y * s.x) + (c.y * s.x + c.x)
  unfolding index
  as_layer = omega arith

  pub place_index : (a : Axis) → coord (place s (index s c)) a ≡ coord c a
  unfolding place
  place_index X = rw as_row (digits_mod (c.z * s.y + c.y) hx)
  place_index Y = rw (as_row, digits_div (c.z * s.y + c.y) hx) (digits_mod c.z hy)
  place_index Z = rw (as_layer, mul_comm s.x s.y) (digits_div c.z (digits_lt hy hx))

positive_left : (a b : ℕ) {p : ℕ} → p < a * b → 0 < a
positive_left zero b h = absurd (not-suc-le-zero (rw zero-mul at h))
positive_left (suc a) b h = omega arith

pub place_inside : (s : Triple) (p : ℕ) → p < volume s → Inside s (place s p)
unfolding place volume
place_inside s p h X = mod-lt p (positive_left s.x s.y (positive_left (s.x * s.y) s.z h))
place_inside s p h Y = mod-lt (p / s.x) (positive_left s.y s.x {p = 0} (omega (arith, positive_left (s.x * s.y) s.z h)))
place_inside s p h Z = (div-lt_iff_lt-mul (positive_left (s.x * s.y) s.z h)).1 (omega arith)

pub index_inside : (s c : Triple) → Inside s c → index s c < volume s
unfolding volume
index_inside s c i =
    rw (as_layer s c (i X) (i Y))
    (let h : c.z * (s.y * s.x) + (c.y * s.x + c.x) < s.z * (s.y * s.x) = digits_lt (i Z) (digits_lt (i Y) (i X)) in omega arith)

-- The order of places, x fastest, is the order of their numbers.
pub data Before (c d : Triple) : Type 0 where
  layer : c.z < d.z → Before c d
  line : c.z ≡ d.z → c.y < d.y → Before c d
  cell : c.z ≡ d.z → c.y ≡ d.y → c.x < d.x → Before c d

pub before_index : (s c d : Triple) → c.x < s.x → c.y < s.y → Before c d → index s c < index s d
unfolding index
before_index s c d hx hy (layer h) =
    rw (as_layer s c hx hy)
    (let k : c.z * (s.y * s.x) + (c.y * s.x + c.x) < d.z * (s.y * s.x) = digits_lt h (digits_lt hy hx) in omega arith)
before_index s c d hx hy (line e h) = rw e (let k : c.y * s.x + c.x < d.y * s.x = digits_lt h hx in omega arith)
before_index s c d hx hy (cell e f h) = rw (e, f) (omega arith)

three_ways : (a b : ℕ) → (a < b) ⊎ ((b < a) ⊎ (a ≡ b))
three_ways a b = by_test (ltb a b) (λ t. inl (ltb-true _ _ t)) (λ t. by_test (ltb b a) (λ u. inr (inl (ltb-true _ _ u))) (λ u. inr (inr (omega (arith, ltb-false a b t, ltb-false b a u)))))

before_or : (s c d : Triple) → Before c d ⊎ (Before d c ⊎ (index s c ≡ index s d))
before_or s c d = by_z (three_ways c.z d.z)
  where
    by_x : c.z ≡ d.z → c.y ≡ d.y → (c.x < d.x) ⊎ ((d.x < c.x) ⊎ (c.x ≡ d.x)) → Before c d ⊎ (Before d c ⊎ (index s c ≡ index s d))
    by_x e f (inl h) = inl (cell e f h)
    by_x e f (inr (inl h)) = inr (inl (cell (sym e) (sym f) h))
    by_x e f (inr (inr g)) = inr (inr (ap (index s) (λ i. triple (g i) (f i) (e i))))

    by_y : c.z ≡ d.z → (c.y < d.y) ⊎ ((d.y < c.y) ⊎ (c.y ≡ d.y)) → Before c d ⊎ (Before d c ⊎ (index s c ≡ index s d))
    by_y e (inl h) = inl (line e h)
    by_y e (inr (inl h)) = inr (inl (line (sym e) h))
    by_y e (inr (inr f)) = by_x e f (three_ways c.x d.x)

    by_z : (c.z < d.z) ⊎ ((d.z < c.z) ⊎ (c.z ≡ d.z)) → Before c d ⊎ (Before d c ⊎ (index s c ≡ index s d))
    by_z (inl h) = inl (layer h)
    by_z (inr (inl h)) = inr (inl (layer h))
    by_z (inr (inr e)) = by_y e (three_ways c.y d.y)

pub place_before : (s : Triple) (p q : ℕ) → p < q → q < volume s → Before (place s p) (place s q)
place_before s p q h k = go (before_or s (place s p) (place s q))
  where
    go : Before (place s p) (place s q) ⊎ (Before (place s q) (place s p) ⊎ (index s (place s p) ≡ index s (place s q))) → Before (place s p) (place s q)
    go (inl b) = b
    go (inr (inl b)) =
        let i : Inside s (place s q) = place_inside s q k in
        let l : index s (place s q) < index s (place s p) = before_index s (place s q) (place s p) (i X) (i Y) b in
        absurd (omega (arith, index_place s p, index_place s q))
    go (inr (inr e)) = absurd (omega (arith, index_place s p, index_place s q))

-- One step along an axis, up and down.
unfoldable pub raised : Axis → Triple → Triple
raised X c = triple (suc c.x) c.y c.z
raised Y c = triple c.x (suc c.y) c.z
raised Z c = triple c.x c.y (suc c.z)

unfoldable pub lowered : Axis → Triple → Triple
lowered X c = triple (c.x - 1) c.y c.z
lowered Y c = triple c.x (c.y - 1) c.z
lowered Z c = triple c.x c.y (c.z - 1)

pub index_raised : (s c : Triple) (a : Axis) → index s (raised a c) ≡ index s c + stride s a
unfolding index raised stride
index_raised s c X = omega arith
index_raised s c Y = omega arith
index_raised s c Z = omega arith

raised_lowered : (c : Triple) (a : Axis) → 0 < coord c a → raised a (lowered a c) ≡ c
unfolding raised lowered
raised_lowered c X h = let e : suc (c.x - 1) ≡ c.x = omega arith in λ i. triple (e i) c.y c.z
raised_lowered c Y h = let e : suc (c.y - 1) ≡ c.y = omega arith in λ i. triple c.x (e i) c.z
raised_lowered c Z h = let e : suc (c.z - 1) ≡ c.z = omega arith in λ i. triple c.x c.y (e i)

pub lowered_add : (s c : Triple) (a : Axis) → 0 < coord c a → index s (lowered a c) + stride s a ≡ index s c
lowered_add s c a h = sym (index_raised s (lowered a c) a) ∙ ap (index s) (raised_lowered c a h)

pub index_lowered : (s c : Triple) (a : Axis) → 0 < coord c a → index s (lowered a c) ≡ index s c - stride s a
index_lowered s c a h = omega (arith, lowered_add s c a h)
