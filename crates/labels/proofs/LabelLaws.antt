-- `labels` is a numbering, and the only one.
-- Assumes nothing.
use mathlib.Core.Path.{◌≡◌, refl, sym, ap, ◌∙◌, subst}
use mathlib.Core.Bool.{true, false, cond, true≢false}
use mathlib.Core.Logic.{◌↔◌, ◌≢◌}
use mathlib.Core.List.{List, []}
use Prim.Native.Nat.{ℕ, zero, suc, ◌+◌, ◌-◌, ◌≤◌, ◌<◌}
use native.Mathlib.Omega.{arith}
use lib.Dec.{eqb, ltb}
use lib.ListN.{get_or, length}
use lib.Seq.{ext_get_or}
use borrow.Author.Tests.{eqb-true, eqb-false, eq-eqb, ne_eqb, ltb-true, ltb-false}
use Rattle.lists.proofs.Cases.{by_test}
use Rattle.lists.proofs.Lists.{length-tabulate, get_or_tabulate, map_same}
use Rattle.cells.specs.Box.{stride}
use Rattle.cells.specs.declared.Axis.TheVariants.{X, Y, Z}
use Rattle.cells.specs.declared.Triple.{Triple}
use Rattle.cells.specs.Grid.{sides, cells, parity, order, along, upper_neighbours, voxel}
use Rattle.cells.specs.Row.{row_of, occupied, row, active}
use Rattle.labels.specs.Number.{number, numbered_at, numbered, code_at, map_down, labels}
use Rattle.labels.specs.Numbering.{Joined, here, step, Numbering}
use Rattle.cells.proofs.GridLaws.{Upper, upper_neighbour, order_most}
use Rattle.labels.proofs.NumberLaws.{Cell, number_inactive, number_shared, number_positive, number_earlier}

-- Two maps that agree on the cells of order i and above.
abbrev pub Agree : Triple → ℕ → List ℕ → List ℕ → Type 0
Agree e i m n = (p : ℕ) → p < cells e → i ≤ order e p → get_or m p 0 ≡ get_or n p 0

-- rows are read from the order above alone
pub row_agree : (e : Triple) (i : ℕ) (m n : List ℕ) → Agree e i m n → (p : ℕ) → p < cells e → i ≤ suc (order e p) → row e m p ≡ row e n p
unfolding row
row_agree e i m n a p h l =
    ap row_of (map_same (λ q. get_or m q 0) (λ q. get_or n q 0) (upper_neighbours e p) (λ q k. let u : Upper e p q = upper_neighbour e p h k in a q u.within (omega (arith, u.higher))))

pub active_agree : (e : Triple) (i : ℕ) (m n : List ℕ) → Agree e i m n → (p : ℕ) → p < cells e → i ≤ suc (order e p) → active e m p ≡ active e n p
unfolding active
active_agree e i m n a p h l = ap occupied (row_agree e i m n a p h l)

joined_agree : (e : Triple) (m n : List ℕ) {p q : ℕ} → Agree e (suc (order e p)) m n → Joined e m p q → Joined e n p q
joined_agree e m n a here = here
joined_agree e m n {p} a (step {q = q} k t s r) =
    let u : Upper e k.at p = upper_neighbour e k.at k.inside k.one in
    let v : Upper e k.at q = upper_neighbour e k.at k.inside k.two in
    let o : order e p ≡ order e q = u.higher ∙ sym v.higher in
    step k (sym (active_agree e (suc (order e p)) m n a p u.within (omega arith)) ∙ t)
    (sym (row_agree e (suc (order e p)) m n a p u.within (omega arith)) ∙ s ∙ row_agree e (suc (order e p)) m n a q v.within (omega arith))
    (joined_agree e m n (subst (λ (i : ℕ). Agree e (suc i) m n) o a) r)

-- a voxel has no upper neighbour, so an active cell has order 2 at most
no_up : (k p t : ℕ) → k ≡ 0 → along k p t ≡ []
unfolding along
no_up zero p t h = refl
no_up (suc k) p t h = absurd (omega arith)

voxel_inactive : (e : Triple) (m : List ℕ) (p : ℕ) → order e p ≡ 3 → active e m p ≡ false
unfolding active row upper_neighbours order row_of occupied
voxel_inactive e m p h =
    let s = sides e in
    rw (no_up (parity e p X) p (stride s X) (omega arith), no_up (parity e p Y) p (stride s Y) (omega arith), no_up (parity e p Z) p (stride s Z) (omega arith)) refl

pub active_below : (e : Triple) (m : List ℕ) (p : ℕ) → active e m p ≡ true → order e p < 3
unfolding order
active_below e m p t =
    by_test (eqb (order e p) 3) (λ u. absurd (true≢false (sym t ∙ voxel_inactive e m p (eqb-true (order e p) 3 u)))) (λ u. let d : order e p ≢ 3 = eqb-false (order e p) 3 u in omega arith)

-- ---- one order numbered

pub numbered_at_lem : (e : Triple) (j : ℕ) (m : List ℕ) (p : ℕ) → p < cells e → get_or (numbered e j m) p 0 ≡ cond (eqb (order e p) j) (number e m j p) (get_or m p 0)
unfolding numbered numbered_at
numbered_at_lem e j m p h = get_or_tabulate (cells e) (numbered_at e j m) p h

pub numbered_own : (e : Triple) (j : ℕ) (m : List ℕ) (p : ℕ) → p < cells e → order e p ≡ j → get_or (numbered e j m) p 0 ≡ number e m j p
numbered_own e j m p h o = numbered_at_lem e j m p h ∙ rw (eq-eqb (order e p) j o)

pub numbered_other : (e : Triple) (j : ℕ) (m : List ℕ) (p : ℕ) → p < cells e → order e p ≢ j → get_or (numbered e j m) p 0 ≡ get_or m p 0
numbered_other e j m p h o = numbered_at_lem e j m p h ∙ rw (ne_eqb (order e p) j o)

-- ---- all orders

module _ (e : Triple) (codes : List ℕ) where
  stage_agree : (d : ℕ) → d < 3 → Agree e (3 - d) (map_down e codes d) (map_down e codes (suc d))
  unfolding map_down
  stage_agree d l p h o = sym (numbered_other e (2 - d) (map_down e codes d) p h (λ k. omega arith))

  pub final_agree : (k d : ℕ) → k + d ≡ 3 → Agree e (3 - d) (map_down e codes d) (labels e codes)
  unfolding labels
  final_agree zero d s p h o = ap (λ (n : ℕ). get_or (map_down e codes n) p 0) (omega arith)
  final_agree (suc k) d s p h o = stage_agree d (omega arith) p h o ∙ final_agree k (suc d) (omega arith) p h (omega arith)

  -- the map of the orders above j
  abbrev over : ℕ → List ℕ
  over j = map_down e codes (2 - j)

  over_agree : (j : ℕ) → j < 3 → Agree e (suc j) (over j) (labels e codes)
  over_agree j l p h o = final_agree (suc j) (2 - j) (omega arith) p h (omega arith)

  pub label_at : (p : ℕ) → p < cells e → order e p < 3 → get_or (labels e codes) p 0 ≡ number e (over (order e p)) (order e p) p
  unfolding map_down
  label_at p h l =
      let twice : 2 - (2 - order e p) ≡ order e p = omega arith in
      sym (final_agree (order e p) (suc (2 - order e p)) (omega arith) p h (omega arith))
      ∙ numbered_own e (2 - (2 - order e p)) (over (order e p)) p h (sym twice)
      ∙ ap (λ (j : ℕ). number e (over (order e p)) j p) twice

  pub row_over : (p : ℕ) → p < cells e → order e p < 3 → row e (over (order e p)) p ≡ row e (labels e codes) p
  row_over p h l = row_agree e (suc (order e p)) (over (order e p)) (labels e codes) (over_agree (order e p) l) p h (omega arith)

  active_over : (p : ℕ) → p < cells e → order e p < 3 → active e (over (order e p)) p ≡ active e (labels e codes) p
  unfolding active
  active_over p h l = ap occupied (row_over p h l)

  cell_over : (p : ℕ) → p < cells e → active e (labels e codes) p ≡ true → Cell e (over (order e p)) (order e p) p
  cell_over p h t = record { within = h; level = refl; act = active_over p h (active_below e (labels e codes) p t) ∙ t }

  labels_whole : length (labels e codes) ≡ cells e
  unfolding labels map_down numbered
  labels_whole = length-tabulate (cells e) _

  labels_voxels : (p : ℕ) → p < cells e → order e p ≡ 3 → get_or (labels e codes) p 0 ≡ get_or codes (voxel e p) 0
  unfolding map_down code_at
  labels_voxels p h o =
      sym (final_agree 3 0 refl p h (omega arith)) ∙ get_or_tabulate (cells e) (code_at e codes) p h ∙ rw (eq-eqb (order e p) 3 o)

  labels_inactive : (p : ℕ) → p < cells e → order e p < 3 → active e (labels e codes) p ≡ false → get_or (labels e codes) p 0 ≡ 0
  labels_inactive p h l t = label_at p h l ∙ number_inactive e (over (order e p)) (order e p) p (active_over p h l ∙ t)

  labels_shared : (p q : ℕ) → p < cells e → q < cells e → order e p ≡ order e q → active e (labels e codes) p ≡ true → active e (labels e codes) q ≡ true
      → (get_or (labels e codes) p 0 ≡ get_or (labels e codes) q 0) ↔ Joined e (labels e codes) p q
  labels_shared p q h k o t u = (to, from)
    where
      m : List ℕ
      m = over (order e p)

      l : order e p < 3
      l = active_below e (labels e codes) p t

      d : Cell e m (order e p) q
      d = subst (λ (j : ℕ). Cell e (over j) j q) (sym o) (cell_over q k u)

      at_q : get_or (labels e codes) q 0 ≡ number e m (order e p) q
      at_q = label_at q k (active_below e (labels e codes) q u) ∙ ap (λ (j : ℕ). number e (over j) j q) (sym o)

      to : get_or (labels e codes) p 0 ≡ get_or (labels e codes) q 0 → Joined e (labels e codes) p q
      to s = joined_agree e m (labels e codes) (over_agree (order e p) l) ((number_shared e m (order e p) (cell_over p h t) d).0 (sym (label_at p h l) ∙ s ∙ at_q))

      from : Joined e (labels e codes) p q → get_or (labels e codes) p 0 ≡ get_or (labels e codes) q 0
      from s =
          label_at p h l
          ∙ (number_shared e m (order e p) (cell_over p h t) d).1 (joined_agree e (labels e codes) m (λ r i j. sym (over_agree (order e p) l r i j)) s)
          ∙ sym at_q

  labels_positive : (p : ℕ) → p < cells e → active e (labels e codes) p ≡ true → 0 < get_or (labels e codes) p 0
  labels_positive p h t = rw (label_at p h (active_below e (labels e codes) p t)) (number_positive e (over (order e p)) (order e p) (cell_over p h t))

  labels_earlier : (p k : ℕ) → p < cells e → active e (labels e codes) p ≡ true → 0 < k → k < get_or (labels e codes) p 0
      → (q : ℕ) × (q < p) × (order e q ≡ order e p) × (get_or (labels e codes) q 0 ≡ k)
  labels_earlier p k h t k0 l =
      let b : order e p < 3 = active_below e (labels e codes) p t in
      let r = number_earlier e (over (order e p)) (order e p) (cell_over p h t) k k0 (rw (label_at p h b) at l) in
      let o : order e r.0 ≡ order e p = r.2.level in
      (r.0, r.1, o, label_at r.0 r.2.within (omega arith) ∙ ap (λ (j : ℕ). number e (over j) j r.0) o ∙ r.3)

  pub labels_numbering : Numbering e codes (labels e codes)
  labels_numbering =
      record {
        whole = labels_whole;
        voxels = labels_voxels;
        inactive = labels_inactive;
        shared = labels_shared;
        positive = labels_positive;
        earlier = labels_earlier;
      }

-- ---- the only numbering

agree_sym : (e : Triple) (i : ℕ) (m n : List ℕ) → Agree e i m n → Agree e i n m
agree_sym e i m n a p h l = sym (a p h l)

-- two numberings agree at an active cell where they agree on the orders above, and on the earlier cells of its own
not_less : (e : Triple) (codes m n : List ℕ) → Numbering e codes m → Numbering e codes n → (p : ℕ) → p < cells e → Agree e (suc (order e p)) m n
    → ((q : ℕ) → q < p → q < cells e → order e q ≡ order e p → get_or m q 0 ≡ get_or n q 0) → active e m p ≡ true → get_or m p 0 < get_or n p 0 → ⊥
not_less e codes m n M N p h a ih t l =
    let u : active e n p ≡ true = sym (active_agree e (suc (order e p)) m n a p h (omega arith)) ∙ t in
    let b : order e p < 3 = active_below e m p t in
    let r = N.earlier p (get_or m p 0) h u (M.positive p h t) l in
    let k : r.0 < cells e = omega (arith, r.1) in
    let s : get_or m r.0 0 ≡ get_or m p 0 = ih r.0 r.1 k r.2 ∙ r.3 in
    by_test (active e m r.0)
    (λ v.
    let w : active e n r.0 ≡ true = sym (active_agree e (suc (order e p)) m n a r.0 k (omega (arith, r.2))) ∙ v in
    let j : Joined e m p r.0 = (M.shared p r.0 h k (sym r.2) t v).0 (sym s) in
    let c : get_or n p 0 ≡ get_or n r.0 0 = (N.shared p r.0 h k (sym r.2) u w).1 (joined_agree e m n a j) in
    omega (arith, r.3))
    (λ v. omega (arith, M.inactive r.0 k (omega (arith, r.2)) v, M.positive p h t))

module _ (e : Triple) (codes m n : List ℕ) (M : Numbering e codes m) (N : Numbering e codes n) where
  same_at : (i : ℕ) → i < 3 → Agree e (suc i) m n → (b p : ℕ) → p < b → p < cells e → order e p ≡ i → get_or m p 0 ≡ get_or n p 0
  same_at i l a zero p g h o = absurd (omega arith)
  same_at i l a (suc b) p g h o =
      by_test (active e m p)
      (λ t.
      let u : active e n p ≡ true = sym (active_agree e (suc i) m n a p h (omega arith)) ∙ t in
      let a' : Agree e (suc (order e p)) m n = rw o a in
      let ih : (q : ℕ) → q < p → q < cells e → order e q ≡ order e p → get_or m q 0 ≡ get_or n q 0 = λ q f k r. same_at i l a b q (omega arith) k (r ∙ o) in
      by_test (ltb (get_or m p 0) (get_or n p 0))
      (λ v. absurd (not_less e codes m n M N p h a' ih t (ltb-true _ _ v)))
      (λ v. by_test (ltb (get_or n p 0) (get_or m p 0))
      (λ w. absurd (not_less e codes n m N M p h (agree_sym e (suc (order e p)) m n a') (λ q f k r. sym (ih q f k r)) u (ltb-true _ _ w)))
      (λ w. omega (arith, ltb-false (get_or m p 0) (get_or n p 0) v, ltb-false (get_or n p 0) (get_or m p 0) w))))
      (λ t. M.inactive p h (omega arith) t ∙ sym (N.inactive p h (omega arith) (sym (active_agree e (suc i) m n a p h (omega arith)) ∙ t)))

  all_agree : (k i : ℕ) → k + i ≡ 3 → Agree e i m n
  all_agree zero i s p h l = let o : order e p ≡ 3 = omega (arith, order_most e p) in M.voxels p h o ∙ sym (N.voxels p h o)
  all_agree (suc k) i s p h l =
      by_test (eqb (order e p) i)
      (λ t. same_at i (omega arith) (all_agree k (suc i) (omega arith)) (suc p) p (omega arith) h (eqb-true (order e p) i t))
      (λ t. let d : order e p ≢ i = eqb-false (order e p) i t in all_agree k (suc i) (omega arith) p h (omega arith))

  pub numbering_unique : m ≡ n
  numbering_unique = ext_get_or 0 m n (M.whole ∙ sym N.whole) (λ p h. all_agree 3 0 refl p (omega (arith, M.whole)) (omega arith))

-- "Numbering one block" as a relation and as a computation are the same.
pub numbering_labels : (e : Triple) (codes m : List ℕ) → Numbering e codes m ↔ (m ≡ labels e codes)
numbering_labels e codes m = (
  λ M. numbering_unique e codes m (labels e codes) M (labels_numbering e codes),
  λ s. subst (Numbering e codes) (sym s) (labels_numbering e codes),
)

-- ---- what holds of every numbering

joined_row_lem : (e : Triple) (m : List ℕ) {p q : ℕ} → Joined e m p q → row e m p ≡ row e m q
joined_row_lem e m here = refl
joined_row_lem e m (step r t s l) = s ∙ joined_row_lem e m l

-- Active cells of one order and one number have one row.
pub shared_row : (e : Triple) (codes : List ℕ) (p q : ℕ) → p < cells e → q < cells e → order e p ≡ order e q → active e (labels e codes) p ≡ true → active e (labels e codes) q ≡ true
    → get_or (labels e codes) p 0 ≡ get_or (labels e codes) q 0 → row e (labels e codes) p ≡ row e (labels e codes) q
shared_row e codes p q h k o t u s = joined_row_lem e (labels e codes) (((labels_numbering e codes).shared p q h k o t u).0 s)

pub numbered_active : (e : Triple) (codes : List ℕ) (p : ℕ) → p < cells e → order e p < 3 → 0 < get_or (labels e codes) p 0 → active e (labels e codes) p ≡ true
numbered_active e codes p h l g = by_test (active e (labels e codes) p) (λ t. t) (λ t. absurd (omega (arith, (labels_numbering e codes).inactive p h l t)))

-- "Point cells never meet, so each active one is a point alone."
pub point_alone : (e : Triple) (m : List ℕ) {p q : ℕ} → order e p ≡ 0 → Joined e m p q → p ≡ q
point_alone e m o here = refl
point_alone e m o (step r t s l) = absurd (omega (arith, (upper_neighbour e r.at r.inside r.one).higher))
