-- The cells of a component: membership, the first cell, and that no cell stands before it.
-- Assumes nothing.
use mathlib.Core.Path.{◌≡◌, refl, subst}
use mathlib.Core.Logic.{◌⊎◌, inl, inr}
use mathlib.Core.List.Memᴰ
use mathlib.Core.List.{List, [], ◌∷◌, Memᴰ}
use Prim.Native.Nat.{ℕ, suc, ◌≤◌, ◌<◌}
use native.Mathlib.Omega.{arith}
use lib.Dec.{eqb}
use lib.ListN.{get_or}
use borrow.Author.Tests.{eqb-true, eq-eqb}
use Rattle.lists.specs.Lists.{consecutive}
use Rattle.lists.proofs.Lists.{keep_in, keep_out, consecutive_in, consecutive_out, Ascends, ascends_consecutive, ascends_keep, ascends_le}
use Rattle.lists.proofs.Tests.{first_in_lem}
use Rattle.cells.specs.declared.Triple.{Triple}
use Rattle.cells.specs.Grid.{cells, order}
use Rattle.labels.specs.Components.{of_order, component, first_cell}

pub of_order_in : (e : Triple) {p : ℕ} → p < cells e → Memᴰ p (of_order e (order e p))
unfolding of_order
of_order_in e {p} h = keep_in (λ q. eqb (order e q) (order e p)) (consecutive 0 (cells e)) (consecutive_in 0 (cells e) (omega arith) (omega arith)) (eq-eqb (order e p) (order e p) refl)

pub of_order_out : (e : Triple) (j : ℕ) {p : ℕ} → Memᴰ p (of_order e j) → (p < cells e) × (order e p ≡ j)
unfolding of_order
of_order_out e j {p} m =
    let r = keep_out (λ q. eqb (order e q) j) (consecutive 0 (cells e)) m in
    let b = consecutive_out 0 (cells e) r.0 in
    (omega arith, eqb-true (order e p) j r.1)

pub component_in : (e : Triple) (m : List ℕ) {p : ℕ} → p < cells e → Memᴰ p (component e m (order e p) (get_or m p 0))
unfolding component
component_in e m {p} h = keep_in (λ q. eqb (get_or m q 0) (get_or m p 0)) (of_order e (order e p)) (of_order_in e h) (eq-eqb (get_or m p 0) (get_or m p 0) refl)

-- cell p has order j and number n
pub record Belongs (e : Triple) (m : List ℕ) (j n p : ℕ) : Type 0 where
  pub within : p < cells e
  pub level : order e p ≡ j
  pub has : get_or m p 0 ≡ n

pub component_out : (e : Triple) (m : List ℕ) (j n : ℕ) {p : ℕ} → Memᴰ p (component e m j n) → Belongs e m j n p
unfolding component
component_out e m j n {p} h =
    let r = keep_out (λ q. eqb (get_or m q 0) n) (of_order e j) h in
    let o = of_order_out e j r.0 in
    record { within = o.0; level = o.1; has = eqb-true (get_or m p 0) n r.1 }

first_belongs : (e : Triple) (m : List ℕ) {p : ℕ} → p < cells e → Belongs e m (order e p) (get_or m p 0) (first_cell e m (order e p) (get_or m p 0))
unfolding first_cell
first_belongs e m {p} h = component_out e m (order e p) (get_or m p 0) (first_in_lem (component e m (order e p) (get_or m p 0)) (component_in e m h))

-- no entry of an ascending list is less than its first
pub ascends_first : (b : ℕ) (l : List ℕ) {x : ℕ} → Ascends b l → Memᴰ x l → get_or l 0 0 ≤ x
ascends_first b [] s m = absurd (Memᴰ.not-nil m)
ascends_first b (y ∷ l) {x} s m = go (Memᴰ.cases_cons m)
  where
    go : (x ≡ y) ⊎ Memᴰ x l → y ≤ x
    go (inl e) = omega arith
    go (inr k) = omega (arith, ascends_le (suc y) l s.1 k)

-- no cell of a component stands before its first cell
first_least : (e : Triple) (m : List ℕ) (p : ℕ) → p < cells e → first_cell e m (order e p) (get_or m p 0) ≤ p
unfolding first_cell component of_order
first_least e m p h =
    ascends_first 0 (component e m (order e p) (get_or m p 0))
    (ascends_keep (λ q. eqb (get_or m q 0) (get_or m p 0)) 0 (of_order e (order e p)) (ascends_keep (λ q. eqb (order e q) (order e p)) 0 (consecutive 0 (cells e)) (ascends_consecutive 0 (cells e))))
    (component_in e m h)

pub least_at : (e : Triple) (m : List ℕ) (j n p : ℕ) → p < cells e → order e p ≡ j → get_or m p 0 ≡ n → first_cell e m j n ≤ p
least_at e m j n p h o g = subst (λ (i : ℕ). first_cell e m i n ≤ p) o (subst (λ (x : ℕ). first_cell e m (order e p) x ≤ p) g (first_least e m p h))

pub belongs_at : (e : Triple) (m : List ℕ) (j n p : ℕ) → p < cells e → order e p ≡ j → get_or m p 0 ≡ n → Belongs e m j n (first_cell e m j n)
belongs_at e m j n p h o g =
    subst (λ (i : ℕ). Belongs e m i n (first_cell e m i n)) o (subst (λ (x : ℕ). Belongs e m (order e p) x (first_cell e m (order e p) x)) g (first_belongs e m h))
