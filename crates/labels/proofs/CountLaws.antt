-- The largest number of an order is how many components it has: no cell has a larger one, and each from 1 to it stands at a cell.
-- Assumes nothing.
use mathlib.Core.Path.{◌≡◌, refl, sym, ap, ◌∙◌, subst}
use mathlib.Core.Bool.{Bool, true}
use mathlib.Core.Logic.{◌⊎◌, inl, inr, ◌≢◌}
use mathlib.Core.List.Memᴰ
use mathlib.Core.List.{List, [], ◌∷◌, map, foldr, Memᴰ}
use Prim.Native.Nat.{ℕ, suc, ◌-◌, ◌≤◌, ◌<◌, max}
use native.Mathlib.Omega.{arith}
use lib.Dec.{leb, eqb, ltb}
use lib.ListN.{get_or}
use borrow.Author.Tests.{ltb-true, ltb-false, leb-true, leb-false, eqb-true, eqb-false}
use native.Mathlib.Nat.{max-eq_left, max-eq_right, le_of_lt}
use Rattle.cells.specs.declared.Triple.{Triple}
use Rattle.cells.specs.Grid.{cells, order}
use Rattle.cells.specs.Row.{row, active}
use Rattle.closure.specs.Joined.{rep}
use Rattle.closure.specs.Numbered.{count_below, leader}
use Rattle.closure.proofs.Numbers.{label_bound, label_last}
use Rattle.labels.specs.Number.{edges, active_of, number, numbered, map_down, labels}
use Rattle.labels.proofs.NumberLaws.{rep_leaders}
use Rattle.labels.proofs.LabelLaws.{Agree, numbered_own, final_agree, shared_row, numbered_active}
use Rattle.labels.specs.Numbering.{Numbering}
use Rattle.labels.specs.Components.{of_order, largest, component, first_cell, row_at_first, component_row}
use Rattle.labels.proofs.ComponentLaws.{of_order_in, of_order_out, Belongs, least_at, belongs_at, component_out}
use Rattle.lists.proofs.Cases.{by_test, and_first}
use Rattle.lists.proofs.Lists.{map_same}

max_bound : (l : List ℕ) {x : ℕ} → Memᴰ x l → x ≤ foldr max 0 l
max_bound [] m = absurd (Memᴰ.not-nil m)
max_bound (y ∷ l) {x} m = go (Memᴰ.cases_cons m) (λ k. max_bound l k)
  where
    go : (x ≡ y) ⊎ Memᴰ x l → (Memᴰ x l → x ≤ foldr max 0 l) → x ≤ max y (foldr max 0 l)
    go (inl e) ih = omega arith
    go (inr k) ih = omega (arith, ih k)

max_reached : (l : List ℕ) → 0 < foldr max 0 l → Memᴰ (foldr max 0 l) l
max_reached [] h = absurd (omega arith)
max_reached (y ∷ l) h =
    by_test (leb y (foldr max 0 l))
    (λ t. let e : max y (foldr max 0 l) ≡ foldr max 0 l = max-eq_right (leb-true _ _ t) in rw e (Memᴰ.tail (max_reached l (omega arith))))
    (λ t. Memᴰ.head (max-eq_left (le_of_lt (leb-false _ _ t))))

pub largest_bound : (e : Triple) (m : List ℕ) (p : ℕ) → p < cells e → get_or m p 0 ≤ largest e m (order e p)
unfolding largest
largest_bound e m p h = max_bound (map (λ q. get_or m q 0) (of_order e (order e p))) (Memᴰ.map (λ q. get_or m q 0) (of_order_in e h))

-- a cell of order j with number n
pub record Somewhere (e : Triple) (m : List ℕ) (j n : ℕ) : Type 0 where
  pub p : ℕ
  pub there : Belongs e m j n p

pub largest_reached : (e : Triple) (m : List ℕ) (j : ℕ) → 0 < largest e m j → Somewhere e m j (largest e m j)
unfolding largest
largest_reached e m j h =
    let r = Memᴰ.of_map (λ q. get_or m q 0) (of_order e j) (max_reached (map (λ q. get_or m q 0) (of_order e j)) h) in
    let o = of_order_out e j r.1 in
    record { p = r.0; there = record { within = o.0; level = o.1; has = r.2 } }

pub every_number : (e : Triple) (codes m : List ℕ) → Numbering e codes m → (j : ℕ) → j < 3 → (n : ℕ) → 0 < n → n ≤ largest e m j → Somewhere e m j n
every_number e codes m M j lj n h l =
    let r : Somewhere e m j (largest e m j) = largest_reached e m j (omega arith) in
    by_test (eqb n (largest e m j))
    (λ t. subst (Somewhere e m j) (sym (eqb-true n (largest e m j) t)) r)
    (λ t.
    let d : n ≢ largest e m j = eqb-false n (largest e m j) t in
    by_test (active e m r.p)
    (λ a.
    let q = M.earlier r.p n r.there.within a h (omega (arith, r.there.has)) in
    record { p = q.0; there = record { within = omega (arith, q.1, r.there.within); level = q.2 ∙ r.there.level; has = q.3 } })
    (λ a. absurd (omega (arith, r.there.has, M.inactive r.p r.there.within (omega (arith, r.there.level)) a))))

-- first cells stand in the order of the numbers
pub first_cells_ascend : (e : Triple) (codes m : List ℕ) → Numbering e codes m → (j : ℕ) → j < 3 → (k n : ℕ) → 0 < k → k < n → n ≤ largest e m j → first_cell e m j k < first_cell e m j n
first_cells_ascend e codes m M j lj k n hk l h =
    let r : Somewhere e m j n = every_number e codes m M j lj n (omega arith) h in
    let f : Belongs e m j n (first_cell e m j n) = belongs_at e m j n r.p r.there.within r.there.level r.there.has in
    by_test (active e m (first_cell e m j n))
    (λ t.
    let q = M.earlier (first_cell e m j n) k f.within t hk (omega (arith, f.has)) in
    omega (arith, q.1, least_at e m j k q.0 (omega (arith, q.1, f.within)) (q.2 ∙ f.level) q.3))
    (λ t. absurd (omega (arith, f.has, M.inactive (first_cell e m j n) f.within (omega (arith, f.level)) t)))

-- The largest number of an order is how many first cells it has.
module _ (e : Triple) (m : List ℕ) (j : ℕ) where
  abbrev f : ℕ → ℕ
  f = rep (edges e m j)

  abbrev act : ℕ → Bool
  act = active_of e m j

  abbrev leaders : ℕ
  leaders = count_below (leader f act) (cells e)

  largest_low : largest e (numbered e j m) j ≤ leaders
  unfolding number
  largest_low =
      by_test (ltb 0 (largest e (numbered e j m) j))
      (λ t.
      let r : Somewhere e (numbered e j m) j (largest e (numbered e j m) j) = largest_reached e (numbered e j m) j (ltb-true _ _ t) in
      omega (arith, r.there.has, numbered_own e j m r.p r.there.within r.there.level, label_bound f act (rep_leaders e m j) (cells e) r.p r.there.within))
      (λ t. omega (arith, ltb-false 0 (largest e (numbered e j m) j) t))

  largest_high : leaders ≤ largest e (numbered e j m) j
  unfolding number active_of
  largest_high =
      by_test (ltb 0 leaders)
      (λ t.
      let r = label_last f act (rep_leaders e m j) (cells e) (ltb-true _ _ t) in
      let o : order e r.0 ≡ j = eqb-true (order e r.0) j (and_first (eqb (order e r.0) j) (active e m r.0) r.2) in
      let b : get_or (numbered e j m) r.0 0 ≤ largest e (numbered e j m) j = rw o at (largest_bound e (numbered e j m) r.0 r.1) in
      omega (arith, numbered_own e j m r.0 r.1 o, r.3))
      (λ t. omega (arith, ltb-false 0 leaders t))

  pub largest_leaders : count_below (leader (rep (edges e m j)) (active_of e m j)) (cells e) ≡ largest e (numbered e j m) j
  largest_leaders = omega (arith, largest_low, largest_high)

-- Maps that agree on order j have the same largest number there.
pub largest_agree : (e : Triple) (m n : List ℕ) (j : ℕ) → Agree e j m n → largest e m j ≡ largest e n j
unfolding largest
largest_agree e m n j a =
    ap (foldr max 0) (map_same (λ p. get_or m p 0) (λ p. get_or n p 0) (of_order e j) (λ p k. let o = of_order_out e j k in a p o.0 (omega (arith, o.1))))

-- The counts of the whole map, from the map that each order is numbered in.
pub count_down : (e : Triple) (codes : List ℕ) (d : ℕ) → d < 3 → largest e (map_down e codes (suc d)) (2 - d) ≡ largest e (labels e codes) (2 - d)
count_down e codes d h =
    let r : 3 - suc d ≡ 2 - d = omega arith in
    largest_agree e (map_down e codes (suc d)) (labels e codes) (2 - d) (λ p k l. final_agree e codes (2 - d) (suc d) (omega arith) p k (omega arith))

-- ---- the cells of a component

module _ (e : Triple) (codes : List ℕ) {j n : ℕ} (hj : j < 3) (hn : 0 < n) where
  pub member_active : {t : ℕ} → Belongs e (labels e codes) j n t → active e (labels e codes) t ≡ true
  member_active {t} c = numbered_active e codes t c.within (omega (arith, c.level)) (omega (arith, c.has))

  members_alike : (s t : ℕ) → Belongs e (labels e codes) j n s → Belongs e (labels e codes) j n t → row e (labels e codes) s ≡ row e (labels e codes) t
  members_alike s t c d = shared_row e codes s t c.within d.within (c.level ∙ sym d.level) (member_active c) (member_active d) (c.has ∙ sym d.has)

  -- Each has the row of the component.
  pub component_row_lem : (t : ℕ) → Memᴰ t (component e (labels e codes) j n) → row e (labels e codes) t ≡ component_row e (labels e codes) j n
  unfolding component_row row_at_first
  component_row_lem t i = go (component e (labels e codes) j n) (λ s k. component_out e (labels e codes) j n k) i
    where
      go : (c : List ℕ) → ((s : ℕ) → Memᴰ s c → Belongs e (labels e codes) j n s) → Memᴰ t c → row e (labels e codes) t ≡ row_at_first e (labels e codes) c
      go [] b k = absurd (Memᴰ.not-nil k)
      go (s ∷ c) b k = members_alike t s (b t k) (b s (Memᴰ.head refl))
