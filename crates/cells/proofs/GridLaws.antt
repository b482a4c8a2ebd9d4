-- The upper neighbours of a cell lie in the grid, and have the next order.
-- Assumes nothing.
use mathlib.Core.Path.{◌≡◌, refl, sym, ap, ◌∙◌, subst}
use mathlib.Core.Logic.{◌⊎◌, inl, inr}
use mathlib.Core.List.Memᴰ
use mathlib.Core.List.{List, [], ◌∷◌, ◌++◌, Memᴰ}
use Prim.Native.Nat.{ℕ, zero, suc, ◌+◌, ◌-◌, ◌*◌, ◌/◌, ◌%◌, ◌≤◌, ◌<◌}
use native.Mathlib.Omega.{arith}
use Rattle.cells.specs.Box.{triple, coord, each, stride, volume, index, place}
use Rattle.cells.specs.declared.Axis.{Axis}
use Rattle.cells.specs.declared.Axis.TheVariants.{X, Y, Z}
use Rattle.cells.specs.declared.Triple.{Triple}
use lib.ListN.{length, length-append}
use Rattle.cells.specs.Grid.{sides, cells, parity, order, along, upper_neighbours, voxel, voxel_cell}
use Rattle.cells.proofs.BoxLaws.{Inside, index_place, place_index, place_inside, index_inside, raised, lowered, index_raised, index_lowered, lowered_add, coord_each, same_triple}

along_mem : (k p step : ℕ) {q : ℕ} → Memᴰ q (along k p step) → (0 < k) × ((q ≡ p - step) ⊎ (q ≡ p + step))
unfolding along
along_mem zero p step h = absurd (Memᴰ.not-nil h)
along_mem (suc k) p step {q} h = (omega arith, go (Memᴰ.cases_cons h))
  where
    last : (q ≡ p + step) ⊎ Memᴰ q [] → (q ≡ p - step) ⊎ (q ≡ p + step)
    last (inl e) = inr e
    last (inr m) = absurd (Memᴰ.not-nil m)

    go : (q ≡ p - step) ⊎ Memᴰ q ((p + step) ∷ []) → (q ≡ p - step) ⊎ (q ≡ p + step)
    go (inl e) = inl e
    go (inr m) = last (Memᴰ.cases_cons m)

-- q is one step from p along an axis on which p is odd
pub record Beside (e : Triple) (p q : ℕ) : Type 0 where
  pub axis : Axis
  pub odd_there : 0 < parity e p axis
  pub way : (q ≡ p - stride (sides e) axis) ⊎ (q ≡ p + stride (sides e) axis)

pub up_beside : (e : Triple) (p : ℕ) {q : ℕ} → Memᴰ q (upper_neighbours e p) → Beside e p q
unfolding upper_neighbours
up_beside e p {q} h = last (Memᴰ.append_cases (on X ++ on Y) h)
  where
    on : Axis → List ℕ
    on a = along (parity e p a) p (stride (sides e) a)

    at : (a : Axis) → Memᴰ q (on a) → Beside e p q
    at a m = let r = along_mem (parity e p a) p (stride (sides e) a) m in record { axis = a; odd_there = r.0; way = r.1 }

    first_two : Memᴰ q (on X) ⊎ Memᴰ q (on Y) → Beside e p q
    first_two (inl m) = at X m
    first_two (inr m) = at Y m

    last : Memᴰ q (on X ++ on Y) ⊎ Memᴰ q (on Z) → Beside e p q
    last (inl m) = first_two (Memᴰ.append_cases (on X) m)
    last (inr m) = at Z m

-- the parity of a place's coordinates gives the order of its cell
pub odd_at : (e c : Triple) → Inside (sides e) c → (a : Axis) → parity e (index (sides e) c) a ≡ coord c a % 2
unfolding parity
odd_at e c i a = rw (place_index (sides e) c (i X) (i Y) a)

pub order_at_lem : (e c : Triple) → Inside (sides e) c → order e (index (sides e) c) ≡ 3 - (c.x % 2 + c.y % 2 + c.z % 2)
unfolding order
order_at_lem e c i = rw (odd_at e c i X, odd_at e c i Y, odd_at e c i Z)

pub side_on : (e : Triple) (a : Axis) → coord (sides e) a ≡ 2 * coord e a - 1
unfolding sides
side_on e X = refl
side_on e Y = refl
side_on e Z = refl

pub raised_inside : (s c : Triple) (a : Axis) → Inside s c → suc (coord c a) < coord s a → Inside s (raised a c)
unfolding raised
raised_inside s c X i h X = h
raised_inside s c X i h Y = i Y
raised_inside s c X i h Z = i Z
raised_inside s c Y i h X = i X
raised_inside s c Y i h Y = h
raised_inside s c Y i h Z = i Z
raised_inside s c Z i h X = i X
raised_inside s c Z i h Y = i Y
raised_inside s c Z i h Z = h

pub lowered_inside : (s c : Triple) (a : Axis) → Inside s c → Inside s (lowered a c)
unfolding lowered
lowered_inside s c X i X = omega (arith, i X)
lowered_inside s c X i Y = i Y
lowered_inside s c X i Z = i Z
lowered_inside s c Y i X = i X
lowered_inside s c Y i Y = omega (arith, i Y)
lowered_inside s c Y i Z = i Z
lowered_inside s c Z i X = i X
lowered_inside s c Z i Y = i Y
lowered_inside s c Z i Z = omega (arith, i Z)

pub inside : (e : Triple) (p : ℕ) → p < cells e → Inside (sides e) (place (sides e) p)
unfolding cells
inside e p h = place_inside (sides e) p h

-- an odd coordinate is neither the first nor the last
pub low_side : (e : Triple) (p : ℕ) (a : Axis) → 0 < parity e p a → 0 < coord (place (sides e) p) a
unfolding parity
low_side e p a o = omega arith

pub high_side : (e : Triple) (p : ℕ) (a : Axis) → p < cells e → 0 < parity e p a → suc (coord (place (sides e) p) a) < coord (sides e) a
unfolding parity
high_side e p a h o = omega (arith, side_on e a, inside e p h a)

order_raised : (c : Triple) (a : Axis) → 0 < coord c a % 2
    → 3 - ((raised a c).x % 2 + (raised a c).y % 2 + (raised a c).z % 2) ≡ suc (3 - (c.x % 2 + c.y % 2 + c.z % 2))
unfolding raised
order_raised c X o = omega arith
order_raised c Y o = omega arith
order_raised c Z o = omega arith

order_lowered : (c : Triple) (a : Axis) → 0 < coord c a % 2
    → 3 - ((lowered a c).x % 2 + (lowered a c).y % 2 + (lowered a c).z % 2) ≡ suc (3 - (c.x % 2 + c.y % 2 + c.z % 2))
unfolding lowered
order_lowered c X o = omega arith
order_lowered c Y o = omega arith
order_lowered c Z o = omega arith

-- What is shown of an upper neighbour: it lies in the grid, one order higher.
pub record Upper (e : Triple) (p q : ℕ) : Type 0 where
  pub within : q < cells e
  pub higher : order e q ≡ suc (order e p)

at_place : (e : Triple) (p : ℕ) (c : Triple) → Inside (sides e) c → 3 - (c.x % 2 + c.y % 2 + c.z % 2) ≡ suc (order e p) → Upper e p (index (sides e) c)
unfolding cells
at_place e p c i o = record { within = index_inside (sides e) c i; higher = order_at_lem e c i ∙ o }

beside_upper : (e : Triple) (p : ℕ) {q : ℕ} → p < cells e → Beside e p q → Upper e p q
unfolding order parity
beside_upper e p {q} h b = go b.way
  where
    s : Triple
    s = sides e

    c : Triple
    c = place s p

    a : Axis
    a = b.axis

    go : (q ≡ p - stride s a) ⊎ (q ≡ p + stride s a) → Upper e p q
    go (inl w) =
        let at : index s (lowered a c) ≡ q = index_lowered s c a (low_side e p a b.odd_there) ∙ ap (λ (n : ℕ). n - stride s a) (index_place s p) ∙ sym w in
        subst (Upper e p) at (at_place e p (lowered a c) (lowered_inside s c a (inside e p h)) (order_lowered c a b.odd_there))
    go (inr w) =
        let at : index s (raised a c) ≡ q = index_raised s c a ∙ ap (λ (n : ℕ). n + stride s a) (index_place s p) ∙ sym w in
        subst (Upper e p) at (at_place e p (raised a c) (raised_inside s c a (inside e p h) (high_side e p a h b.odd_there)) (order_raised c a b.odd_there))

pub upper_neighbour : (e : Triple) (p : ℕ) {q : ℕ} → p < cells e → Memᴰ q (upper_neighbours e p) → Upper e p q
upper_neighbour e p h m = beside_upper e p h (up_beside e p m)

-- ---- steps along an odd axis stay in the grid

pub odd_lt : (e : Triple) (p : ℕ) (a : Axis) → parity e p a < 2
unfolding parity
odd_lt e p a = omega arith

pub axis_down : (e : Triple) (p : ℕ) (a : Axis) → 0 < parity e p a → stride (sides e) a ≤ p
axis_down e p a o = omega (arith, lowered_add (sides e) (place (sides e) p) a (low_side e p a o), index_place (sides e) p)

pub axis_up : (e : Triple) (p : ℕ) (a : Axis) → p < cells e → 0 < parity e p a → p + stride (sides e) a < cells e
unfolding cells
axis_up e p a h o =
    let s = sides e in
    let c = place s p in
    omega (arith, index_raised s c a, index_place s p, index_inside s (raised a c) (raised_inside s c a (inside e p h) (high_side e p a h o)))

-- ---- how many upper neighbours a cell has

length-along : (k p t : ℕ) → k < 2 → length (along k p t) ≡ 2 * k
unfolding along
length-along zero p t h = refl
length-along (suc k) p t h = omega arith

pub length_up : (e : Triple) (p : ℕ) → length (upper_neighbours e p) ≡ 6 - 2 * order e p
unfolding upper_neighbours order
length_up e p =
    let s = sides e in
    simp length-append
    (omega (arith, odd_lt e p X, odd_lt e p Y, odd_lt e p Z, length-along (parity e p X) p (stride s X) (odd_lt e p X), length-along (parity e p Y) p (stride s Y) (odd_lt e p Y), length-along (parity e p Z) p (stride s Z) (odd_lt e p Z)))

-- ---- voxels and their cells

-- a place halved lies among the voxels, a voxel's place doubled among the cells
halves : (e : Triple) (p : ℕ) → p < cells e → Inside e (each (λ a. coord (place (sides e) p) a / 2))
halves e p h a = rw (coord_each (λ b. coord (place (sides e) p) b / 2) a) (omega (arith, inside e p h a, side_on e a))

doubled : Triple → ℕ → Triple
doubled e v = each (λ a. 2 * coord (place e v) a)

doubles : (e : Triple) (v : ℕ) → v < volume e → Inside (sides e) (doubled e v)
unfolding doubled
doubles e v h a = rw (coord_each (λ b. 2 * coord (place e v) b) a) (omega (arith, place_inside e v h a, side_on e a))

pub voxel_inside : (e : Triple) (p : ℕ) → p < cells e → voxel e p < volume e
unfolding voxel
voxel_inside e p h = index_inside e (each (λ a. coord (place (sides e) p) a / 2)) (halves e p h)

pub voxel_cell_inside : (e : Triple) (v : ℕ) → v < volume e → voxel_cell e v < cells e
unfolding voxel_cell cells doubled
voxel_cell_inside e v h = index_inside (sides e) (doubled e v) (doubles e v h)

-- the cell of a voxel has order 3, and is that voxel
pub voxel_cell_order : (e : Triple) (v : ℕ) → v < volume e → order e (voxel_cell e v) ≡ 3
unfolding voxel_cell doubled
voxel_cell_order e v h = order_at_lem e (doubled e v) (doubles e v h) ∙ omega arith

pub voxel_cell_lem : (e : Triple) (v : ℕ) → v < volume e → voxel e (voxel_cell e v) ≡ v
unfolding voxel voxel_cell doubled
voxel_cell_lem e v h =
    ap (index e)
    (same_triple _ _
    (λ a. coord_each (λ b. coord (place (sides e) (index (sides e) (doubled e v))) b / 2) a
    ∙ omega (arith, place_index (sides e) (doubled e v) (doubles e v h X) (doubles e v h Y) a, coord_each (λ b. 2 * coord (place e v) b) a)))
    ∙ index_place e v

-- a cell of order 3 is the cell of its voxel
pub cell_voxel : (e : Triple) (p : ℕ) → p < cells e → order e p ≡ 3 → voxel_cell e (voxel e p) ≡ p
unfolding voxel voxel_cell order parity
cell_voxel e p h o =
    ap (index (sides e))
    (same_triple _ _
    (λ a. coord_each (λ b. 2 * coord (place e (index e (each (λ c. coord (place (sides e) p) c / 2)))) b) a
    ∙ omega (arith, place_index e (each (λ c. coord (place (sides e) p) c / 2)) (halves e p h X) (halves e p h Y) a, coord_each (λ c. coord (place (sides e) p) c / 2) a, even a)))
    ∙ index_place (sides e) p
  where
    even : (a : Axis) → coord (place (sides e) p) a % 2 ≡ 0
    even X = omega arith
    even Y = omega arith
    even Z = omega arith

-- ---- orders

pub order_most : (e : Triple) (p : ℕ) → order e p ≤ 3
unfolding order
order_most e p = omega arith

-- "The largest volume has 2,047³ = 8,577,357,823 cells."
pub largest_grid : cells (triple 1024 1024 1024) ≡ 8577357823
unfolding cells volume sides
largest_grid = refl
