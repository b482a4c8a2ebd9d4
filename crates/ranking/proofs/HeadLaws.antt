-- The first ones of a kind's components, and their ranks, as the joiner defines them: the places that a sort of the first ones by key gives.
-- Assumes nothing.
use mathlib.Core.Path.{◌≡◌, refl, sym, ap, subst, ◌∙◌}
use mathlib.Core.Bool.{Bool, true, false, not, ◌&&◌, ◌||◌}
use mathlib.Core.Logic.{◌≢◌}
use mathlib.Core.List.{List, []}
use Prim.Native.Nat.{ℕ, zero, suc, ◌≤◌, ◌<◌, zero-le}
use native.Mathlib.Nat.{le_refl, le_antisymm, mul-le-mul_right}
use native.Mathlib.Omega.{arith}
use lib.Arith.{digits_lt}
use lib.Dec.{eqb, leb, ltb}
use lib.ListN.{get_or, length}
use borrow.Author.Tests.{eq-eqb, eqb-true, eqb-false, le-leb, lt-leb, leb-true, leb-false, ltb-true, ltb-false}
use Rattle.lists.specs.Lists.{consecutive, keep}
use Rattle.lists.proofs.Cases.{by_test, picked, and_first, and_second}
use Rattle.lists.proofs.Lists.{Ascends, ascends_at, ascends_consecutive, ascends_keep, consecutive_in, consecutive_out, get_or-in, keep_in, keep_out}
use Rattle.lists.proofs.Tests.{all_in, all_out, first_in_lem, implied, implies, keep_same}
use Rattle.closure.proofs.Numbers.{count_same, keep_count}
use Rattle.union_find.specs.Links.{root}
use Rattle.union_find.proofs.LinkLaws.{root_low, root_idem, root_past}
use Rattle.sorting.specs.Sorting.{rank_in, stable, key_at, StandsByRank}
use Rattle.sorting.proofs.Counts.{lex_le}
use Rattle.sorting.proofs.RankLaws.{rank_low, rank_next, rank_onto, stable_inj}
use Rattle.joiner.specs.Job.{Kind, Face, Curve, Point, Tables}
use Rattle.joiner.specs.Outcomes.{not_after, class_of, is_one, leads, heads, rank, head_of}
use Rattle.ranking.specs.Ranking.{first_of, leaders_of}
use Rattle.ranking.proofs.FirstLaws.{first_below}
use Rattle.ranking.proofs.Places.{place_in}

-- ---- classes

-- Points have no links.
pub class_point : (t : Tables) (x : ℕ) → class_of t Point x ≡ root [] x
unfolding class_of
class_point t x = sym (root_past [] x zero-le)

class_low : (t : Tables) (κ : Kind) (x : ℕ) → class_of t κ x ≤ x
unfolding class_of
class_low t Face x = root_low (t.links Face) x
class_low t Curve x = root_low (t.links Curve) x
class_low t Point x = le_refl x

class_own : (t : Tables) (κ : Kind) (x : ℕ) → class_of t κ (class_of t κ x) ≡ class_of t κ x
unfolding class_of
class_own t Face x = root_idem (t.links Face) x
class_own t Curve x = root_idem (t.links Curve) x
class_own t Point x = refl

module _ (t : Tables) (κ : Kind) (n : ℕ) where
  abbrev key : ℕ → ℕ
  key x = get_or (t.keys κ) x 0

  -- key and place in one number
  abbrev spot : ℕ → ℕ
  spot = stable key n

  after_is : (x y : ℕ) → x < n → y < n → not_after t κ x y ≡ leb (spot x) (spot y)
  unfolding not_after stable
  after_is x y hx hy = sym (lex_le (key x) (key y) n x y (omega arith) hy)

  -- ---- the first one of a class

  -- y is the first one of class c.
  pub record Leads (c y : ℕ) : Type 0 where
    pub below : y < n
    pub in_class : class_of t κ y ≡ c
    pub first : (z : ℕ) → z < n → class_of t κ z ≡ c → spot y ≤ spot z

  leads_once : {c x y : ℕ} → Leads c x → Leads c y → x ≡ y
  leads_once {c} {x} {y} a b =
      stable_inj key n x y a.below b.below (omega (arith, a.first y b.below b.in_class, b.first x a.below a.in_class))

  -- y comes no later than all of x's class.
  leads_out : (x y : ℕ) → y < n → leads t κ n y x ≡ true → (z : ℕ) → z < n → class_of t κ z ≡ class_of t κ x → spot y ≤ spot z
  unfolding leads is_one
  leads_out x y hy a z hz e =
      leb-true _ _ (sym (after_is y z hy hz)
      ∙ implied (is_one t κ x z) (not_after t κ y z) (all_out (λ z. not (is_one t κ x z) || not_after t κ y z) (consecutive 0 n) a (consecutive_in 0 n (omega arith) (omega arith)))
      (eq-eqb _ _ (sym e)))

  leads_in : (x y : ℕ) → y < n → ((z : ℕ) → z < n → class_of t κ z ≡ class_of t κ x → spot y ≤ spot z) → leads t κ n y x ≡ true
  unfolding leads is_one
  leads_in x y hy h =
      all_in (λ z. not (is_one t κ x z) || not_after t κ y z) (consecutive 0 n)
      (λ z m. let hz : z < n = omega (arith, consecutive_out 0 n m) in
      implies (is_one t κ x z) (not_after t κ y z) (λ e. after_is y z hy hz ∙ le-leb _ _ (h z hz (sym (eqb-true _ _ e)))))

  -- ---- it is found by one pass over the places

  -- the pass has come to k
  record Passed (c k y : ℕ) : Type 0 where
    in_class : class_of t κ y ≡ c
    first : (z : ℕ) → z < k → class_of t κ z ≡ c → spot y ≤ spot z

  -- the places before k, and k itself
  passed_more : (c k y : ℕ) → ((z : ℕ) → z < k → class_of t κ z ≡ c → spot y ≤ spot z) → (class_of t κ k ≡ c → spot y ≤ spot k)
      → (z : ℕ) → z < suc k → class_of t κ z ≡ c → spot y ≤ spot z
  passed_more c k y h l z hz e =
      by_test (eqb z k)
      (λ a. let q : z ≡ k = eqb-true z k a in omega (arith, ap spot q, l (ap (class_of t κ) (sym q) ∙ e)))
      (λ a. let q : z ≢ k = eqb-false z k a in h z (omega arith) e)

  spot_less : (x y : ℕ) → x < n → key x < key y → spot x ≤ spot y
  unfolding stable
  spot_less x y hx h = omega (arith, digits_lt h hx)

  spot_le : (x y : ℕ) → x ≤ y → key x ≤ key y → spot x ≤ spot y
  unfolding stable
  spot_le x y hx h = omega (arith, mul-le-mul_right n h)

  passed : (c k : ℕ) → k ≤ n → c < n → class_of t κ c ≡ c → Passed c k (first_of (t.keys κ) (class_of t κ) c k)
  unfolding first_of
  passed c zero hk hc e = record { in_class = e; first = λ z l. absurd (omega arith) }
  passed c (suc k) hk hc e =
      let y : ℕ = first_of (t.keys κ) (class_of t κ) c k in
      let p : Passed c k y = passed c k (omega arith) hc e in
      picked (Passed c (suc k)) (eqb (class_of t κ k) c && ltb (key k) (key y)) k y
      (λ a.
      let l : key k < key y = ltb-true _ _ (and_second (eqb (class_of t κ k) c) _ a) in
      record {
        in_class = eqb-true _ _ (and_first (eqb (class_of t κ k) c) (ltb (key k) (key y)) a);
        first = passed_more c k k (λ z u q. omega (arith, p.first z u q, spot_less k y hk l)) (λ q. le_refl (spot k));
      })
      (λ a. record {
        in_class = p.in_class;
        first = passed_more c k y p.first
            (λ q. let o : c ≤ k = omega (arith, class_low t κ k) in
            let b : ltb (key k) (key y) ≡ false = rw (eq-eqb _ _ q) at a in
            spot_le y k (omega (arith, first_below (t.keys κ) (class_of t κ) c k (suc k) (omega arith) (omega arith))) (ltb-false _ _ b));
      })

  first_leads : (c : ℕ) → c < n → class_of t κ c ≡ c → Leads c (first_of (t.keys κ) (class_of t κ) c n)
  first_leads c h e = let p = passed c n (le_refl n) h e in record { below = first_below (t.keys κ) (class_of t κ) c n n h (le_refl n); in_class = p.in_class; first = p.first }

  -- ---- the first ones

  head_is : (x : ℕ) → x < n → leads t κ n x x ≡ eqb (first_of (t.keys κ) (class_of t κ) (class_of t κ x) n) x
  head_is x hx =
      let c : ℕ = class_of t κ x in
      let l : Leads c (first_of (t.keys κ) (class_of t κ) c n) = first_leads c (omega (arith, class_low t κ x)) (class_own t κ x) in
      by_test (eqb (first_of (t.keys κ) (class_of t κ) c n) x)
      (λ a. leads_in x x hx (λ z hz e. omega (arith, ap spot (eqb-true (first_of (t.keys κ) (class_of t κ) c n) x a), l.first z hz e)) ∙ sym a)
      (λ a. by_test (leads t κ n x x)
      (λ b. absurd (eqb-false _ _ a (leads_once l (record { below = hx; in_class = refl; first = leads_out x x hx b }))))
      (λ b. b ∙ sym a))

  -- The first ones are those that one pass finds.
  pub heads_found : heads t κ n ≡ leaders_of (t.keys κ) (class_of t κ) n
  unfolding heads leaders_of
  heads_found = keep_same _ _ (consecutive 0 n) (λ x m. head_is x (omega (arith, consecutive_out 0 n m)))

  abbrev hs : List ℕ
  hs = heads t κ n

  abbrev h : ℕ
  h = length (heads t κ n)

  head_at : (j : ℕ) → j < h → Leads (class_of t κ (get_or hs j 0)) (get_or hs j 0)
  unfolding heads
  head_at j l =
      let m = keep_out (λ x. leads t κ n x x) (consecutive 0 n) (get_or-in hs j l) in
      let b : get_or hs j 0 < n = omega (arith, consecutive_out 0 n m.0) in
      record { below = b; in_class = refl; first = leads_out (get_or hs j 0) (get_or hs j 0) b m.1 }

  -- Every component has a first one.
  head_for : (x : ℕ) → x < n → (k : ℕ) × (k < h) × (class_of t κ (get_or hs k 0) ≡ class_of t κ x)
  unfolding heads
  head_for x hx =
      let c : ℕ = class_of t κ x in
      let y : ℕ = first_of (t.keys κ) (class_of t κ) c n in
      let l : Leads c y = first_leads c (omega (arith, class_low t κ x)) (class_own t κ x) in
      let p = place_in hs (keep_in (λ x. leads t κ n x x) (consecutive 0 n) (consecutive_in 0 n (omega arith) (omega (arith, l.below)))
      (leads_in y y l.below (λ z hz e. l.first z hz (e ∙ l.in_class)))) in
      (p.0, p.1, ap (class_of t κ) p.2 ∙ l.in_class)

  -- ---- ranks

  -- key and place in the list of the first ones
  abbrev e : ℕ → ℕ
  e = stable (key_at (t.keys κ) (heads t κ n)) (length (heads t κ n))

  e_inj : (i j : ℕ) → i < h → j < h → e i ≡ e j → i ≡ j
  e_inj = stable_inj (key_at (t.keys κ) hs) h

  place_order : (j k : ℕ) → j < h → k < h → leb (get_or hs j 0) (get_or hs k 0) ≡ leb j k
  unfolding heads
  place_order j k hj hk =
      let up : Ascends 0 hs = ascends_keep (λ x. leads t κ n x x) 0 (consecutive 0 n) (ascends_consecutive 0 n) in
      by_test (leb j k)
      (λ a. by_test (eqb j k)
      (λ b. le-leb (get_or hs j 0) (get_or hs k 0) (omega (arith, ap (λ (i : ℕ). get_or hs i 0) (eqb-true j k b))) ∙ sym a)
      (λ b. let q : j ≢ k = eqb-false j k b in let l : j ≤ k = leb-true j k a in
      le-leb (get_or hs j 0) (get_or hs k 0) (omega (arith, ascends_at 0 hs up j k (omega arith) hk)) ∙ sym a))
      (λ a. lt-leb _ _ (ascends_at 0 hs up k j (leb-false j k a) hj) ∙ sym a)

  -- No two are of one component.
  head_once : (i j : ℕ) → i < h → j < h → class_of t κ (get_or hs i 0) ≡ class_of t κ (get_or hs j 0) → i ≡ j
  head_once i j hi hj q =
      let s : get_or hs i 0 ≡ get_or hs j 0 = leads_once (head_at i hi) (subst (λ (c : ℕ). Leads c (get_or hs j 0)) (sym q) (head_at j hj)) in
      le_antisymm (leb-true i j (sym (place_order i j hi hj) ∙ le-leb (get_or hs i 0) (get_or hs j 0) (omega arith)))
      (leb-true j i (sym (place_order j i hj hi) ∙ le-leb (get_or hs j 0) (get_or hs i 0) (omega arith)))

  order_same : (j k : ℕ) → j < h → k < h → leb (spot (get_or hs j 0)) (spot (get_or hs k 0)) ≡ leb (e j) (e k)
  unfolding stable key_at
  order_same j k hj hk =
      let x : ℕ = get_or hs j 0 in
      let y : ℕ = get_or hs k 0 in
      lex_le (key x) (key y) n x y (omega (arith, (head_at j hj).below)) (head_at k hk).below
      ∙ ap (λ (b : Bool). ltb (key x) (key y) || eqb (key x) (key y) && b) (place_order j k hj hk)
      ∙ sym (lex_le (key x) (key y) h j k (omega arith) hk)

  leads_at : (x k j : ℕ) → k < h → j < h → class_of t κ (get_or hs k 0) ≡ class_of t κ x → leads t κ n (get_or hs j 0) x ≡ leb (e j) (e k)
  leads_at x k j hk hj q =
      let l : Leads (class_of t κ (get_or hs k 0)) (get_or hs k 0) = head_at k hk in
      let b : get_or hs j 0 < n = (head_at j hj).below in
      by_test (leb (spot (get_or hs j 0)) (spot (get_or hs k 0)))
      (λ a. leads_in x (get_or hs j 0) b (λ z hz r. omega (arith, leb-true (spot (get_or hs j 0)) (spot (get_or hs k 0)) a, l.first z hz (r ∙ sym q))) ∙ sym a)
      (λ a. by_test (leads t κ n (get_or hs j 0) x)
      (λ u. absurd (omega (arith, leb-false (spot (get_or hs j 0)) (spot (get_or hs k 0)) a, leads_out x (get_or hs j 0) b u (get_or hs k 0) l.below q)))
      (λ u. u ∙ sym a))
      ∙ order_same j k hj hk

  rank_at : (x k : ℕ) → k < h → class_of t κ (get_or hs k 0) ≡ class_of t κ x → rank t κ n x ≡ suc (rank_in e h k)
  unfolding rank
  rank_at x k hk q =
      keep_count (λ y. leads t κ n y x) hs
      ∙ count_same (λ j. leads t κ n (get_or hs j 0) x) (λ j. leb (e j) (e k)) h (λ j hj. leads_at x k j hk hj q)
      ∙ rank_next e h e_inj k hk

  -- ---- the first ones by number

  -- Where the first one of number i + 1 stands in the list of the first ones.
  head_of_lem : (i : ℕ) → i < h → (k : ℕ) × (k < h) × (rank_in e h k ≡ i) × (head_of t κ n (suc i) ≡ get_or hs k 0)
  unfolding head_of
  head_of_lem i hi =
      let r = rank_onto e h e_inj i hi in
      let p : ℕ → Bool = λ x. eqb (rank t κ n x) (suc i) in
      let m = keep_in p hs (get_or-in hs r.0 r.1) (eq-eqb _ _ (rank_at (get_or hs r.0 0) r.0 r.1 refl ∙ ap suc r.2)) in
      let q = keep_out p hs (first_in_lem (keep p hs) m) in
      let s = place_in hs q.0 in
      let z : suc (rank_in e h s.0) ≡ suc i = sym (rank_at (get_or (keep p hs) 0 0) s.0 s.1 (ap (class_of t κ) s.2)) ∙ eqb-true _ _ q.1 in
      (s.0, s.1, omega arith, sym s.2)

  -- ---- the first ones, sorted

  module _ (ys : List ℕ) (S : StandsByRank (heads t κ n) ys (stable (key_at (t.keys κ) (heads t κ n)) (length (heads t κ n)))) where
    -- Entry i of the sorted list: where it stands in the list of first ones.
    from_at : (i : ℕ) → i < h → (k : ℕ) × (k < h) × (rank_in e h k ≡ i) × (get_or ys i 0 ≡ get_or hs k 0)
    from_at i hi = let r = rank_onto e h e_inj i hi in (r.0, r.1, r.2, ap (λ (j : ℕ). get_or ys j 0) (sym r.2) ∙ S.moved r.0 r.1)

    -- Its entries are among the n.
    pub sorted_below : (i : ℕ) → i < h → get_or ys i 0 < n
    sorted_below i hi = let r = from_at i hi in omega (arith, r.3, (head_at r.0 r.1).below)

    -- No two are of one component.
    pub sorted_apart : (i j : ℕ) → i < h → j < h → class_of t κ (get_or ys i 0) ≡ class_of t κ (get_or ys j 0) → i ≡ j
    sorted_apart i j hi hj q =
        let r = from_at i hi in
        let s = from_at j hj in
        sym r.2 ∙ ap (rank_in e h) (head_once r.0 s.0 r.1 s.1 (ap (class_of t κ) (sym r.3) ∙ q ∙ ap (class_of t κ) s.3)) ∙ s.2

    -- A table with the numbers 1, 2, 3 of the sorted ones' classes has the rank of each.
    pub rank_read : (ns : List ℕ) → ((i : ℕ) → i < h → get_or ns (class_of t κ (get_or ys i 0)) 0 ≡ suc i) → (x : ℕ) → x < n → get_or ns (class_of t κ x) 0 ≡ rank t κ n x
    rank_read ns f x hx =
        let k = head_for x hx in
        ap (λ (c : ℕ). get_or ns c 0) (sym k.2 ∙ ap (class_of t κ) (sym (S.moved k.0 k.1)))
        ∙ f (rank_in e h k.0) (rank_low e h k.0 k.1)
        ∙ sym (rank_at x k.0 k.1 k.2)

    -- Entry i is the first one of number i + 1.
    pub head_read : (i : ℕ) → i < h → head_of t κ n (suc i) ≡ get_or ys i 0
    head_read i hi = let r = head_of_lem i hi in r.3 ∙ sym (S.moved r.0 r.1) ∙ ap (λ (j : ℕ). get_or ys j 0) r.2
