-- Components numbered by first position: where each has a number of a volume and begins no earlier than that number's first cell, which one
-- of them reaches, its rank is that number.
-- Assumes nothing.
use mathlib.Core.Bool.{Bool, ◌&&◌, ◌||◌, false, not, true, true≢false}
use mathlib.Core.List.Memᴰ
use mathlib.Core.List.{List, Memᴰ, [], ◌∷◌}
use mathlib.Core.Logic.{◌↔◌, ◌≢◌, ◌⊎◌, inl, inr}
use mathlib.Core.Path.{◌∙◌, ◌≡◌, ap, refl, subst, sym}
use Prim.Native.Nat.{◌+◌, ◌<◌, ◌≤◌, suc, zero, ℕ}
use native.Mathlib.Nat.{le_antisymm}
use native.Mathlib.Omega.{arith}
use lib.Dec.{eqb, leb, ltb}
use lib.IntN.{pos}
use lib.ListN.{get_or, length}
use borrow.Author.Tests.{eq-eqb, eqb-false, eqb-true, le-leb, leb-false, leb-true, lt-leb, lt-ltb, ltb-false, ltb-true, ne_eqb}
use Rattle.lists.specs.Lists.{consecutive, keep}
use Rattle.cells.specs.Row.{once}
use Rattle.joiner.specs.Outcomes.{class_of, head_of, heads, is_one, leads, not_after, rank}
use Rattle.joiner.specs.Job.{Kind, Tables, first_at}
use Rattle.lists.proofs.Cases.{and_both, and_first, and_second, by_test, or_either, or_on_left, or_on_right}
use Rattle.lists.proofs.Lists.{Ascends, ascends_consecutive, ascends_keep, ascends_le, consecutive_in, consecutive_out, keep_in, keep_out}
use Rattle.lists.proofs.Tests.{all_in, all_out, first_in_lem, implied, implies, keep_all, keep_same}
use Rattle.joiner.proofs.Keys.{positions_le, positions_less}

module _ (t : Tables) (κ : Kind) where
  Q : ℕ → ℕ
  Q x = get_or (t.keys κ) x 0

  data Sooner (x y : ℕ) : Type 0 where
    earlier : Q x < Q y → Sooner x y
    level : Q x ≡ Q y → x ≤ y → Sooner x y

  lex_out : (x y : ℕ) → not_after t κ x y ≡ true → Sooner x y
  unfolding not_after Q
  lex_out x y e = go (or_either (ltb (Q x) (Q y)) (eqb (Q x) (Q y) && leb x y) e)
    where
      go : (ltb (Q x) (Q y) ≡ true) ⊎ ((eqb (Q x) (Q y) && leb x y) ≡ true) → Sooner x y
      go (inl a) = earlier (ltb-true _ _ a)
      go (inr a) = level (eqb-true _ _ (and_first (eqb (Q x) (Q y)) (leb x y) a)) (leb-true _ _ (and_second (eqb (Q x) (Q y)) (leb x y) a))

  lex_in : (x y : ℕ) → Sooner x y → not_after t κ x y ≡ true
  unfolding not_after Q
  lex_in x y (earlier h) = or_on_left (ltb (Q x) (Q y)) _ (lt-ltb _ _ h)
  lex_in x y (level q h) = or_on_right (ltb (Q x) (Q y)) _ (and_both (eqb (Q x) (Q y)) (leb x y) (eq-eqb _ _ q) (le-leb _ _ h))

  lex_trans : (x y z : ℕ) → Sooner x y → Sooner y z → Sooner x z
  lex_trans x y z (earlier a) (earlier b) = earlier (omega arith)
  lex_trans x y z (earlier a) (level b c) = earlier (omega arith)
  lex_trans x y z (level a b) (earlier c) = earlier (omega arith)
  lex_trans x y z (level a b) (level c d) = level (a ∙ c) (omega arith)

  lex_total : (x y : ℕ) → Sooner x y ⊎ Sooner y x
  lex_total x y =
      by_test (ltb (Q x) (Q y)) (λ a. inl (earlier (ltb-true _ _ a)))
      (λ a. by_test (ltb (Q y) (Q x)) (λ b. inr (earlier (ltb-true _ _ b)))
      (λ b. let q : Q x ≡ Q y = omega (arith, ltb-false (Q x) (Q y) a, ltb-false (Q y) (Q x) b) in
      by_test (leb x y) (λ e. inl (level q (leb-true _ _ e))) (λ e. inr (level (sym q) (omega (arith, leb-false x y e))))))

  lex_same : (x y : ℕ) → Sooner x y → Sooner y x → x ≡ y
  lex_same x y (earlier a) (earlier b) = absurd (omega arith)
  lex_same x y (earlier a) (level b c) = absurd (omega arith)
  lex_same x y (level a b) (earlier c) = absurd (omega arith)
  lex_same x y (level a b) (level c d) = omega arith

  -- in the order of keys is in the order of positions
  lex_le : (x y : ℕ) → Sooner x y → first_at t κ x ≤ first_at t κ y
  unfolding first_at Q
  lex_le x y (earlier a) = positions_le (Q x) (Q y) (omega arith)
  lex_le x y (level a b) = positions_le (Q x) (Q y) (omega arith)

  lex_less : (x y : ℕ) → first_at t κ x < first_at t κ y → Sooner x y
  unfolding first_at Q
  lex_less x y h = earlier (positions_less (Q x) (Q y) h)

  -- the first of those in a list that pass a test
  record First (P : ℕ → Bool) (l : List ℕ) : Type 0 where
    it : ℕ
    listed : Memᴰ it l
    passes : P it ≡ true
    leads_all : (z : ℕ) → Memᴰ z l → P z ≡ true → Sooner it z

  first_of : (P : ℕ → Bool) (l : List ℕ) → ((z : ℕ) → Memᴰ z l → P z ≡ false) ⊎ First P l
  first_of P [] = inl (λ z m. absurd (Memᴰ.not-nil m))
  first_of P (w ∷ l) = by_test (P w) (λ a. inr (yes a (first_of P l))) (λ a. no a (first_of P l))
    where
      lead : (it : ℕ) → Sooner it w → ((z : ℕ) → Memᴰ z l → P z ≡ true → Sooner it z) → (z : ℕ) → Memᴰ z (w ∷ l) → P z ≡ true → Sooner it z
      lead it a h z m p = go (Memᴰ.cases_cons m)
        where
          go : (z ≡ w) ⊎ Memᴰ z l → Sooner it z
          go (inl e) = subst (Sooner it) (sym e) a
          go (inr n) = h z n p

      self : Sooner w w
      self = level refl (omega arith)

      yes : P w ≡ true → ((z : ℕ) → Memᴰ z l → P z ≡ false) ⊎ First P l → First P (w ∷ l)
      yes a (inl h) = record { it = w; listed = Memᴰ.head refl; passes = a; leads_all = lead w self (λ z m p. absurd (true≢false (sym p ∙ h z m))) }
      yes a (inr f) = go (lex_total w f.it)
        where
          go : Sooner w f.it ⊎ Sooner f.it w → First P (w ∷ l)
          go (inl b) = record { it = w; listed = Memᴰ.head refl; passes = a; leads_all = lead w self (λ z m p. lex_trans w f.it z b (f.leads_all z m p)) }
          go (inr b) = record { it = f.it; listed = Memᴰ.tail f.listed; passes = f.passes; leads_all = lead f.it b f.leads_all }

      no : P w ≡ false → ((z : ℕ) → Memᴰ z l → P z ≡ false) ⊎ First P l → ((z : ℕ) → Memᴰ z (w ∷ l) → P z ≡ false) ⊎ First P (w ∷ l)
      no a (inl h) = inl (λ z m. none z (Memᴰ.cases_cons m))
        where
          none : (z : ℕ) → (z ≡ w) ⊎ Memᴰ z l → P z ≡ false
          none z (inl e) = ap P e ∙ a
          none z (inr n) = h z n
      no a (inr f) = inr (record { it = f.it; listed = Memᴰ.tail f.listed; passes = f.passes; leads_all = λ z m p. late z p (Memᴰ.cases_cons m) })
        where
          late : (z : ℕ) → P z ≡ true → (z ≡ w) ⊎ Memᴰ z l → Sooner f.it z
          late z p (inl e) = absurd (true≢false (sym p ∙ ap P e ∙ a))
          late z p (inr n) = f.leads_all z n p

-- ---- counting

count_one : (p : ℕ → Bool) (b : ℕ) (h : List ℕ) (x : ℕ) → Ascends b h → Memᴰ x h → p x ≡ true → ((y : ℕ) → Memᴰ y h → p y ≡ true → y ≡ x) → length (keep p h) ≡ 1
count_one p b [] x s m e only = absurd (Memᴰ.not-nil m)
count_one p b (w ∷ h) x s m e only = go (Memᴰ.cases_cons m) (λ n. count_one p (suc w) h x s.1 n e (λ y i. only y (Memᴰ.tail i)))
  where
    keep_none : (l : List ℕ) → ((y : ℕ) → Memᴰ y l → p y ≡ false) → length (keep p l) ≡ 0
    keep_none [] f = refl
    keep_none (y ∷ l) f = rw (f y (Memᴰ.head refl)) (keep_none l (λ z n. f z (Memᴰ.tail n)))

    go : (x ≡ w) ⊎ Memᴰ x h → (Memᴰ x h → length (keep p h) ≡ 1) → length (keep p (w ∷ h)) ≡ 1
    go (inl q) ih =
        rw (ap p (sym q) ∙ e)
        (ap suc (keep_none h (λ y n. by_test (p y) (λ t. absurd (omega (arith, only y (Memᴰ.tail n) t, ascends_le (suc w) h s.1 n, q))) (λ t. t))))
    go (inr n) ih =
        by_test (p w)
        (λ t. absurd (omega (arith, only w (Memᴰ.head refl) t, ascends_le (suc w) h s.1 n)))
        (λ t. rw t (ih n))

count_split : (v : ℕ → ℕ) (N : ℕ) (h : List ℕ) → length (keep (λ y. leb (v y) (suc N)) h) ≡ length (keep (λ y. leb (v y) N) h) + length (keep (λ y. eqb (v y) (suc N)) h)
count_split v N [] = refl
count_split v N (w ∷ h) =
    by_test (leb (v w) N)
    (λ a.
    let l : v w ≤ N = leb-true _ _ a in
    rw (a, le-leb (v w) (suc N) (omega arith), ne_eqb (v w) (suc N) (λ e. omega arith)) (omega (arith, count_split v N h)))
    (λ a.
    let l : N < v w = leb-false _ _ a in
    by_test (eqb (v w) (suc N))
    (λ b. rw (a, b, le-leb (v w) (suc N) (omega (arith, eqb-true (v w) (suc N) b))) (omega (arith, count_split v N h)))
    (λ b. let d : v w ≢ suc N = eqb-false _ _ b in rw (a, b, lt-leb (v w) (suc N) (omega arith)) (count_split v N h)))

-- numbers that are each had by exactly one entry of an ascending list
module _ (v : ℕ → ℕ) (h : List ℕ) (L : ℕ) (ascending : Ascends 0 h) (pos : (y : ℕ) → Memᴰ y h → 0 < v y) (had : (N : ℕ) → 0 < N → N ≤ L → (x : ℕ) × Memᴰ x h × (v x ≡ N))
    (once : (x y : ℕ) → Memᴰ x h → Memᴰ y h → v x ≡ v y → x ≡ y) where
  zero_none : (l : List ℕ) → ((y : ℕ) → Memᴰ y l → 0 < v y) → length (keep (λ y. leb (v y) 0) l) ≡ 0
  zero_none [] f = refl
  zero_none (y ∷ l) f = rw (lt-leb (v y) 0 (f y (Memᴰ.head refl))) (zero_none l (λ z n. f z (Memᴰ.tail n)))

  counted_to : (N : ℕ) → N ≤ L → length (keep (λ y. leb (v y) N) h) ≡ N
  counted_to zero l = zero_none h pos
  counted_to (suc N) l =
      let x = had (suc N) (omega arith) l in
      let one : length (keep (λ y. eqb (v y) (suc N)) h) ≡ 1 =
      count_one (λ y. eqb (v y) (suc N)) 0 h x.0 ascending x.1 (eq-eqb _ _ x.2) (λ y m e. once y x.0 m x.1 (eqb-true _ _ e ∙ sym x.2)) in
      omega (arith, count_split v N h, counted_to N (omega arith), one)

-- ---- ranks

-- Of n components: v is the number of each in a volume with L of them, of which number N begins at F N.
pub record Ranked (t : Tables) (κ : Kind) (n : ℕ) (v F : ℕ → ℕ) (L : ℕ) : Type 0 where
  pub positive : (x : ℕ) → x < n → 0 < v x
  pub most : (x : ℕ) → x < n → v x ≤ L
  pub begins : (x : ℕ) → x < n → F (v x) ≤ first_at t κ x
  pub reached : (N : ℕ) → 0 < N → N ≤ L → (x : ℕ) × (x < n) × (v x ≡ N) × (first_at t κ x ≡ F N)
  pub one : (x y : ℕ) → x < n → y < n → (class_of t κ x ≡ class_of t κ y) ↔ (v x ≡ v y)
  pub ascend : (M N : ℕ) → 0 < M → M < N → N ≤ L → F M < F N

module _ (t : Tables) (κ : Kind) (n : ℕ) (v F : ℕ → ℕ) (L : ℕ) (R : Ranked t κ n v F L) where
  one_is : (x y : ℕ) → x < n → y < n → (is_one t κ x y ≡ true) ↔ (v x ≡ v y)
  unfolding is_one
  one_is x y hx hy = ((λ e. (R.one x y hx hy).0 (eqb-true _ _ e)), (λ e. eq-eqb _ _ ((R.one x y hx hy).1 e)))

  -- y leads x's component
  leads_out : (x y : ℕ) → x < n → leads t κ n y x ≡ true → (z : ℕ) → z < n → v x ≡ v z → Sooner t κ y z
  unfolding leads
  leads_out x y hx a z hz e =
      lex_out t κ y z (implied (is_one t κ x z) (not_after t κ y z) (all_out (λ z. not (is_one t κ x z) || not_after t κ y z) (consecutive 0 n) a (consecutive_in 0 n (omega arith) (omega (arith, hz)))) ((one_is x z hx hz).1 e))

  leads_in : (x y : ℕ) → x < n → ((z : ℕ) → z < n → v x ≡ v z → Sooner t κ y z) → leads t κ n y x ≡ true
  unfolding leads
  leads_in x y hx h =
      all_in (λ z. not (is_one t κ x z) || not_after t κ y z) (consecutive 0 n)
      (λ z m. let hz : z < n = omega (arith, consecutive_out 0 n m) in implies (is_one t κ x z) (not_after t κ y z) (λ e. lex_in t κ y z (h z hz ((one_is x z hx hz).0 e))))

  -- what heads are
  record Head (x : ℕ) : Type 0 where
    below : x < n
    first : (y : ℕ) → y < n → v x ≡ v y → Sooner t κ x y

  head_out : (x : ℕ) → Memᴰ x (heads t κ n) → Head x
  unfolding heads
  head_out x m =
      let r = keep_out (λ x. leads t κ n x x) (consecutive 0 n) m in
      let hx : x < n = omega (arith, consecutive_out 0 n r.0) in
      record { below = hx; first = leads_out x x hx r.1 }

  head_in : (x : ℕ) → Head x → Memᴰ x (heads t κ n)
  unfolding heads
  head_in x h = keep_in (λ x. leads t κ n x x) (consecutive 0 n) (consecutive_in 0 n (omega arith) (omega (arith, h.below))) (leads_in x x h.below h.first)

  -- every number has a head
  head_for : (N : ℕ) → 0 < N → N ≤ L → (x : ℕ) × Memᴰ x (heads t κ n) × (v x ≡ N)
  head_for N h0 hN = go (first_of t κ (λ y. eqb (v y) N) (consecutive 0 n))
    where
      m : (x : ℕ) × (x < n) × (v x ≡ N) × (first_at t κ x ≡ F N)
      m = R.reached N h0 hN

      go : ((z : ℕ) → Memᴰ z (consecutive 0 n) → eqb (v z) N ≡ false) ⊎ First t κ (λ y. eqb (v y) N) (consecutive 0 n) → (x : ℕ) × Memᴰ x (heads t κ n) × (v x ≡ N)
      go (inl h) = absurd (eqb-false _ _ (h m.0 (consecutive_in 0 n (omega arith) (omega (arith, m.1)))) m.2)
      go (inr f) =
          let e : v f.it ≡ N = eqb-true _ _ f.passes in
          (f.it, head_in f.it (record { below = omega (arith, consecutive_out 0 n f.listed); first = λ y hy q. f.leads_all y (consecutive_in 0 n (omega arith) (omega (arith, hy))) (eq-eqb _ _ (sym q ∙ e)) }), e)

  head_once : (x y : ℕ) → Memᴰ x (heads t κ n) → Memᴰ y (heads t κ n) → v x ≡ v y → x ≡ y
  head_once x y a b e = let h = head_out x a in let g = head_out y b in lex_same t κ x y (h.first y g.below e) (g.first x h.below (sym e))

  -- a head begins where its number does
  head_first : (x : ℕ) → Memᴰ x (heads t κ n) → first_at t κ x ≡ F (v x)
  head_first x a =
      let h : Head x = head_out x a in
      let m = R.reached (v x) (R.positive x h.below) (R.most x h.below) in
      le_antisymm (subst (λ (y : ℕ). first_at t κ x ≤ y) m.3 (lex_le t κ x m.0 (h.first m.0 m.1 (sym m.2)))) (R.begins x h.below)

  heads_up : Ascends 0 (heads t κ n)
  unfolding heads
  heads_up = ascends_keep _ 0 (consecutive 0 n) (ascends_consecutive 0 n)

  count_heads : (N : ℕ) → N ≤ L → length (keep (λ y. leb (v y) N) (heads t κ n)) ≡ N
  count_heads N l = counted_to v (heads t κ n) L heads_up (λ y m. R.positive y (head_out y m).below) head_for head_once N l

  -- which heads a rank counts
  no_later : (x y : ℕ) → x < n → Memᴰ y (heads t κ n) → leads t κ n y x ≡ leb (v y) (v x)
  no_later x y hx my =
      by_test (leb (v y) (v x)) (λ a. yes (leb-true _ _ a) ∙ sym a) (λ a. no (leb-false _ _ a) ∙ sym a)
    where
      h : Head y
      h = head_out y my

      yes : v y ≤ v x → leads t κ n y x ≡ true
      yes l =
          leads_in x y hx
          (λ z hz q.
          by_test (eqb (v y) (v x))
          (λ b. h.first z hz (eqb-true _ _ b ∙ q))
          (λ b.
          let d : v y ≢ v x = eqb-false _ _ b in
          let g : F (v y) < F (v x) = R.ascend (v y) (v x) (R.positive y h.below) (omega arith) (R.most x hx) in
          let u : F (v x) ≤ first_at t κ z = subst (λ (N : ℕ). F N ≤ first_at t κ z) (sym q) (R.begins z hz) in
          lex_less t κ y z (omega (arith, head_first y my, g, u))))

      no : v x < v y → leads t κ n y x ≡ false
      no l =
          by_test (leads t κ n y x)
          (λ a.
          let m = R.reached (v x) (R.positive x hx) (R.most x hx) in
          let u : first_at t κ y ≤ first_at t κ m.0 = lex_le t κ y m.0 (leads_out x y hx a m.0 m.1 (sym m.2)) in
          absurd (omega (arith, u, m.3, head_first y my, R.ascend (v x) (v y) (R.positive x hx) l (R.most y h.below))))
          (λ a. a)

  pub rank_is : (x : ℕ) → x < n → rank t κ n x ≡ v x
  unfolding rank
  rank_is x hx = ap length (keep_same (λ y. leads t κ n y x) (λ y. leb (v y) (v x)) (heads t κ n) (λ y m. no_later x y hx m)) ∙ count_heads (v x) (R.most x hx)

  pub heads_total : length (heads t κ n) ≡ L
  heads_total = ap length (sym (keep_all (λ y. leb (v y) L) (heads t κ n) (λ y m. le-leb _ _ (R.most y (head_out y m).below)))) ∙ count_heads L (omega arith)

  -- each number's head: where it stands and begins
  pub record HeadOf (N : ℕ) : Type 0 where
    pub below : head_of t κ n N < n
    pub number_is : v (head_of t κ n N) ≡ N
    pub first_is : first_at t κ (head_of t κ n N) ≡ F N

  pub head_of_lem : (N : ℕ) → 0 < N → N ≤ L → HeadOf N
  unfolding head_of
  head_of_lem N h0 hN =
      let r = head_for N h0 hN in
      let i = keep_in (λ x. eqb (rank t κ n x) N) (heads t κ n) r.1 (eq-eqb _ _ (rank_is r.0 (head_out r.0 r.1).below ∙ r.2)) in
      let q = keep_out (λ x. eqb (rank t κ n x) N) (heads t κ n) (first_in_lem (keep (λ x. eqb (rank t κ n x) N) (heads t κ n)) i) in
      let x : ℕ = get_or (keep (λ x. eqb (rank t κ n x) N) (heads t κ n)) 0 0 in
      let b : x < n = (head_out x q.0).below in
      let e : v x ≡ N = sym (rank_is x b) ∙ eqb-true _ _ q.1 in
      record { below = b; number_is = e; first_is = head_first x q.0 ∙ ap F e }
