-- The numbers of one order over the map of the orders above: two active cells share a number exactly when a path joins them,
-- and numbers run by first cell. The order is a parameter.
-- Assumes nothing.
use mathlib.Core.Path.{◌≡◌, refl, sym, ap, ◌∙◌, subst}
use mathlib.Core.Bool.{true, false}
use mathlib.Core.Logic.{◌⊎◌, inl, inr, ◌↔◌}
use mathlib.Core.List.Memᴰ
use mathlib.Core.List.{List, [], ◌∷◌, map, Memᴰ}
use Prim.Native.Nat.{ℕ, suc, ◌<◌}
use native.Mathlib.Omega.{arith}
use lib.Dec.{eqb}
use borrow.Author.Tests.{eqb-true, eq-eqb}
use Rattle.lists.specs.Lists.{consecutive, keep}
use Rattle.lists.proofs.Cases.{by_test, and_first, and_second, and_both}
use Rattle.lists.proofs.Lists.{keep_in, keep_out, consecutive_in, consecutive_out}
use Rattle.closure.specs.Joined.{Edge, edge, Linked, stay, along, back, via, rep}
use Rattle.closure.proofs.Classes.{rep_low, rep_idem, rep_path, path_rep, path_to_rep}
use Rattle.closure.proofs.Numbers.{path_act, path_alone, Leaders, label_off, label_is, label_same, label_inj, label_earlier}
use Rattle.cells.specs.declared.Triple.{Triple}
use Rattle.cells.specs.Grid.{cells, order, upper_neighbours}
use Rattle.cells.specs.Row.{row, active, occupied, same_row}
use Rattle.cells.proofs.GridLaws.{Upper, upper_neighbour}
use Rattle.cells.proofs.RowLaws.{same_row_lem, row_same}
use Rattle.labels.specs.Number.{pairs, alike, edges_at, order_below, edges, active_of, number}
use Rattle.labels.specs.Numbering.{Meet, Joined, here, step}

-- ---- pairs

pub pairs_out : (l : List ℕ) {p q : ℕ} → Memᴰ (edge p q) (pairs l) → Memᴰ p l × Memᴰ q l
unfolding pairs
pairs_out [] m = absurd (Memᴰ.not-nil m)
pairs_out (x ∷ l) {p} {q} m = go (Memᴰ.append_cases (map (edge x) l) m) (λ k. pairs_out l k)
  where
    go : Memᴰ (edge p q) (map (edge x) l) ⊎ Memᴰ (edge p q) (pairs l) → (Memᴰ (edge p q) (pairs l) → Memᴰ p l × Memᴰ q l) → Memᴰ p (x ∷ l) × Memᴰ q (x ∷ l)
    go (inl k) ih =
        let r = Memᴰ.of_map (edge x) l k in
        (Memᴰ.head (ap (λ (d : Edge). d.from) (sym r.2)), Memᴰ.tail (subst (λ (y : ℕ). Memᴰ y l) (ap (λ (d : Edge). d.to) r.2) r.1))
    go (inr k) ih = let r = ih k in (Memᴰ.tail r.0, Memᴰ.tail r.1)

pub pairs_in_lem : (l : List ℕ) {p q : ℕ} → Memᴰ p l → Memᴰ q l → (p ≡ q) ⊎ (Memᴰ (edge p q) (pairs l) ⊎ Memᴰ (edge q p) (pairs l))
unfolding pairs
pairs_in_lem [] m n = absurd (Memᴰ.not-nil m)
pairs_in_lem (x ∷ l) {p} {q} m n = go (Memᴰ.cases_cons m) (Memᴰ.cases_cons n) (λ j k. pairs_in_lem l j k)
  where
    Goal : List ℕ → Type 0
    Goal r = (p ≡ q) ⊎ (Memᴰ (edge p q) (pairs r) ⊎ Memᴰ (edge q p) (pairs r))

    later : Goal l → Goal (x ∷ l)
    later (inl e) = inl e
    later (inr (inl k)) = inr (inl (Memᴰ.append_right (map (edge x) l) k))
    later (inr (inr k)) = inr (inr (Memᴰ.append_right (map (edge x) l) k))

    go : (p ≡ x) ⊎ Memᴰ p l → (q ≡ x) ⊎ Memᴰ q l → (Memᴰ p l → Memᴰ q l → Goal l) → Goal (x ∷ l)
    go (inl e) (inl f) ih = inl (e ∙ sym f)
    go (inl e) (inr k) ih = inr (inl (Memᴰ.append_left {s = map (edge x) l} (pairs l) (rw e (Memᴰ.map (edge x) k))))
    go (inr j) (inl f) ih = inr (inr (Memᴰ.append_left {s = map (edge x) l} (pairs l) (rw f (Memᴰ.map (edge x) j))))
    go (inr j) (inr k) ih = later (ih j k)

-- ---- edges

below_in : (e : Triple) (j : ℕ) {t : ℕ} → t < cells e → suc (order e t) ≡ j → Memᴰ t (keep (order_below e j) (consecutive 0 (cells e)))
unfolding order_below
below_in e j {t} h o = keep_in (order_below e j) (consecutive 0 (cells e)) (consecutive_in 0 (cells e) (omega arith) (omega arith)) (eq-eqb (suc (order e t)) j o)

below_out : (e : Triple) (j : ℕ) {t : ℕ} → Memᴰ t (keep (order_below e j) (consecutive 0 (cells e))) → (t < cells e) × (suc (order e t) ≡ j)
unfolding order_below
below_out e j {t} m =
    let r = keep_out (order_below e j) (consecutive 0 (cells e)) m in
    let b = consecutive_out 0 (cells e) r.0 in
    (omega arith, eqb-true (suc (order e t)) j r.1)

-- the pairs of one component at a cell t
record At (e : Triple) (m ts : List ℕ) (d : Edge) : Type 0 where
  t : ℕ
  listed : Memᴰ t ts
  pair : Memᴰ d (pairs (upper_neighbours e t))
  like : alike e m d ≡ true

edges_at_out : (e : Triple) (m ts : List ℕ) {d : Edge} → Memᴰ d (edges_at e m ts) → At e m ts d
unfolding edges_at
edges_at_out e m [] h = absurd (Memᴰ.not-nil h)
edges_at_out e m (t ∷ ts) {d} h = go (Memᴰ.append_cases (keep (alike e m) (pairs (upper_neighbours e t))) h) (λ k. edges_at_out e m ts k)
  where
    go : Memᴰ d (keep (alike e m) (pairs (upper_neighbours e t))) ⊎ Memᴰ d (edges_at e m ts) → (Memᴰ d (edges_at e m ts) → At e m ts d) → At e m (t ∷ ts) d
    go (inl k) ih = let r = keep_out (alike e m) (pairs (upper_neighbours e t)) k in record { t = t; listed = Memᴰ.head refl; pair = r.0; like = r.1 }
    go (inr k) ih = let r = ih k in record { t = r.t; listed = Memᴰ.tail r.listed; pair = r.pair; like = r.like }

edges_at_in : (e : Triple) (m ts : List ℕ) {d : Edge} → At e m ts d → Memᴰ d (edges_at e m ts)
unfolding edges_at
edges_at_in e m [] r = absurd (Memᴰ.not-nil r.listed)
edges_at_in e m (t ∷ ts) {d} r = go (Memᴰ.cases_cons r.listed) (λ k. edges_at_in e m ts (record { t = r.t; listed = k; pair = r.pair; like = r.like }))
  where
    go : (r.t ≡ t) ⊎ Memᴰ r.t ts → (Memᴰ r.t ts → Memᴰ d (edges_at e m ts)) → Memᴰ d (edges_at e m (t ∷ ts))
    go (inl q) ih = Memᴰ.append_left (edges_at e m ts) (keep_in (alike e m) (pairs (upper_neighbours e t)) (subst (λ (x : ℕ). Memᴰ d (pairs (upper_neighbours e x))) q r.pair) r.like)
    go (inr k) ih = Memᴰ.append_right (keep (alike e m) (pairs (upper_neighbours e t))) (ih k)

-- an active cell of order j
pub record Cell (e : Triple) (m : List ℕ) (j p : ℕ) : Type 0 where
  pub within : p < cells e
  pub level : order e p ≡ j
  pub act : active e m p ≡ true

-- what an edge says of its ends
record Tied (e : Triple) (m : List ℕ) (j p q : ℕ) : Type 0 where
  meet : Meet e p q
  one : Cell e m j p
  two : Cell e m j q
  same : row e m p ≡ row e m q

edge_tied : (e : Triple) (m : List ℕ) (j : ℕ) {p q : ℕ} → Memᴰ (edge p q) (edges e m j) → Tied e m j p q
unfolding edges alike active
edge_tied e m j {p} {q} h =
    let r : At e m (keep (order_below e j) (consecutive 0 (cells e))) (edge p q) = edges_at_out e m (keep (order_below e j) (consecutive 0 (cells e))) h in
    let ends = pairs_out (upper_neighbours e r.t) r.pair in
    let o = below_out e j r.listed in
    let up_p : Upper e r.t p = upper_neighbour e r.t o.0 ends.0 in
    let up_q : Upper e r.t q = upper_neighbour e r.t o.0 ends.1 in
    let act-p : active e m p ≡ true = and_first (active e m p) (same_row (row e m p) (row e m q)) r.like in
    let same : row e m p ≡ row e m q = same_row_lem (row e m p) (row e m q) (and_second (active e m p) (same_row (row e m p) (row e m q)) r.like) in
    record {
      meet = record { at = r.t; inside = o.0; one = ends.0; two = ends.1 };
      one = record { within = up_p.within; level = up_p.higher ∙ o.1; act = act-p };
      two = record { within = up_q.within; level = up_q.higher ∙ o.1; act = ap occupied (sym same) ∙ act-p };
      same = same;
    }

-- both ends of an edge are active cells of its order
pub edge_active : (e : Triple) (m : List ℕ) (j : ℕ) (d : Edge) → Memᴰ d (edges e m j) → (active_of e m j d.from ≡ true) × (active_of e m j d.to ≡ true)
unfolding active_of
edge_active e m j d h =
    let r = edge_tied e m j {p = d.from} {q = d.to} h in
    (rw (eq-eqb (order e d.from) j r.one.level) r.one.act, rw (eq-eqb (order e d.to) j r.two.level) r.two.act)

-- the least cells of active cells are active
pub rep_leaders : (e : Triple) (m : List ℕ) (j : ℕ) → Leaders (rep (edges e m j)) (active_of e m j)
rep_leaders e m j = record {
  low = rep_low (edges e m j);
  idem = rep_idem (edges e m j);
  actives = λ x a. sym (path_act (edges e m j) (active_of e m j) (edge_active e m j) (path_to_rep (edges e m j) x)) ∙ a;
}

-- a component is active as a whole
pub rep_active : (e : Triple) (m : List ℕ) (j x : ℕ) → active_of e m j (rep (edges e m j) x) ≡ active_of e m j x
rep_active e m j x = sym (path_act (edges e m j) (active_of e m j) (edge_active e m j) (path_to_rep (edges e m j) x))

-- any other cell is alone
pub rep_inactive : (e : Triple) (m : List ℕ) (j x : ℕ) → active_of e m j x ≡ false → rep (edges e m j) x ≡ x
rep_inactive e m j x a = sym (path_alone (edges e m j) (active_of e m j) (edge_active e m j) (path_to_rep (edges e m j) x) a)

-- ---- joined cells are those that edges connect

meet_order : (e : Triple) {p q : ℕ} → Meet e p q → order e p ≡ order e q
meet_order e k = (upper_neighbour e k.at k.inside k.one).higher ∙ sym (upper_neighbour e k.at k.inside k.two).higher

meet_path : (e : Triple) (m : List ℕ) (j : ℕ) {p q : ℕ} → order e p ≡ j → Meet e p q → active e m p ≡ true → row e m p ≡ row e m q → Linked (edges e m j) p q
unfolding edges alike active
meet_path e m j {p} {q} o k a s = go (pairs_in_lem (upper_neighbours e k.at) k.one k.two)
  where
    ds : List Edge
    ds = edges_at e m (keep (order_below e j) (consecutive 0 (cells e)))

    put : {x y : ℕ} → Memᴰ (edge x y) (pairs (upper_neighbours e k.at)) → active e m x ≡ true → row e m x ≡ row e m y → Memᴰ (edge x y) ds
    put {x} {y} n b r =
        edges_at_in e m (keep (order_below e j) (consecutive 0 (cells e)))
        (record {
          t = k.at;
          listed = below_in e j k.inside (sym (upper_neighbour e k.at k.inside k.one).higher ∙ o);
          pair = n;
          like = and_both (active e m x) (same_row (row e m x) (row e m y)) b (rw r (row_same (row e m y)));
        })

    go : (p ≡ q) ⊎ (Memᴰ (edge p q) (pairs (upper_neighbours e k.at)) ⊎ Memᴰ (edge q p) (pairs (upper_neighbours e k.at))) → Linked ds p q
    go (inl eq) = subst (Linked ds p) eq stay
    go (inr (inl n)) = along (put n a s)
    go (inr (inr n)) = back (along (put n (ap occupied (sym s) ∙ a) (sym s)))

pub joined_path : (e : Triple) (m : List ℕ) (j : ℕ) {p q : ℕ} → order e p ≡ j → Joined e m p q → Linked (edges e m j) p q
joined_path e m j o here = stay
joined_path e m j {p} o (step k a s t) = via (meet_path e m j o k a s) (joined_path e m j (sym (meet_order e k) ∙ o) t)

pub joined_then : (e : Triple) (m : List ℕ) {p q r : ℕ} → Joined e m p q → Joined e m q r → Joined e m p r
joined_then e m here k = k
joined_then e m (step h a s t) k = step h a s (joined_then e m t k)

joined_back : (e : Triple) (m : List ℕ) {p q : ℕ} → Joined e m p q → Joined e m q p
unfolding active
joined_back e m here = here
joined_back e m (step k a s t) =
    joined_then e m (joined_back e m t)
    (step (record { at = k.at; inside = k.inside; one = k.two; two = k.one }) (ap occupied (sym s) ∙ a) (sym s) here)

pub path_joined : (e : Triple) (m : List ℕ) (j : ℕ) {p q : ℕ} → Linked (edges e m j) p q → Joined e m p q
path_joined e m j stay = here
path_joined e m j (along {e = d} h) = let r = edge_tied e m j {p = d.from} {q = d.to} h in step r.meet r.one.act r.same here
path_joined e m j (back t) = joined_back e m (path_joined e m j t)
path_joined e m j (via t u) = joined_then e m (path_joined e m j t) (path_joined e m j u)

-- ---- numbers

module _ (e : Triple) (m : List ℕ) (j : ℕ) where
  cell_active : {p : ℕ} → Cell e m j p → active_of e m j p ≡ true
  unfolding active_of
  cell_active {p} c = rw (eq-eqb (order e p) j c.level) c.act

  pub number_inactive : (p : ℕ) → active e m p ≡ false → number e m j p ≡ 0
  unfolding number active_of
  number_inactive p t =
      label_off (rep (edges e m j)) (active_of e m j) (rep_leaders e m j) p
      (by_test (eqb (order e p) j) (λ u. rw (u, t)) (λ u. rw u))

  pub number_shared : {p q : ℕ} → Cell e m j p → Cell e m j q → (number e m j p ≡ number e m j q) ↔ Joined e m p q
  unfolding number
  number_shared {p} {q} c d =
      let es = edges e m j in
      let H = rep_leaders e m j in (
        λ n. path_joined e m j (path_rep es p q (label_inj (rep es) (active_of e m j) H p q (cell_active c) (cell_active d) n)),
        λ k. label_same (rep es) (active_of e m j) H p q (cell_active c) (cell_active d) (rep_path es (joined_path e m j c.level k)),
      )

  pub number_positive : {p : ℕ} → Cell e m j p → 0 < number e m j p
  unfolding number
  number_positive {p} c = omega (arith, label_is (rep (edges e m j)) (active_of e m j) (rep_leaders e m j) p (cell_active c))

  pub number_earlier : {p : ℕ} → Cell e m j p → (k : ℕ) → 0 < k → k < number e m j p → (q : ℕ) × (q < p) × Cell e m j q × (number e m j q ≡ k)
  unfolding number active_of
  number_earlier {p} c k h l =
      let r = label_earlier (rep (edges e m j)) (active_of e m j) (rep_leaders e m j) p k (cell_active c) h l in
      let q = r.0 in
      let d : Cell e m j q = record { within = omega (arith, r.1, c.within); level = eqb-true (order e q) j (and_first (eqb (order e q) j) (active e m q) r.2); act = and_second (eqb (order e q) j) (active e m q) r.2 } in
      (q, r.1, d, r.3)
