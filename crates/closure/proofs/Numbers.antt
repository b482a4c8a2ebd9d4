-- The laws of the numbering: a leader has one more than the leaders before it, and active ids have one number exactly when they are in one class.
-- Assumes nothing.
use Prim.Native.Nat.{ℕ, zero, suc, ◌+◌, ◌-◌, ◌≤◌, ◌<◌}
use native.Mathlib.Nat.{le_refl, add-suc, add-zero}
use native.Mathlib.Decide.{le_ind}
use native.Mathlib.Omega.{arith}
use mathlib.Core.Bool.{Bool, true, false, true≢false}
use mathlib.Core.List.{List, [], ◌∷◌, Memᴰ}
use mathlib.Core.Path.{◌≡◌, refl, sym, ap, ◌∙◌}
use lib.Dec.{eqb, leb, ltb}
use lib.ListN.{get_or, length}
use borrow.Author.Tests.{eq-eqb, eqb-true, leb-true, leb-false, ltb-true, ltb-false}
use Rattle.closure.specs.Joined.{Edge, Linked, stay, along, back, via}
use Rattle.closure.specs.Numbered.{count_below, leader, number_by, label}
use Rattle.lists.specs.Lists.{keep}
use Rattle.lists.proofs.Cases.{by_test, and_first, and_second}

-- ---- `count`

pub count_hit : (p : ℕ → Bool) (n : ℕ) → p n ≡ true → count_below p (suc n) ≡ suc (count_below p n)
unfolding count_below
count_hit p n h = rw h

pub count_miss : (p : ℕ → Bool) (n : ℕ) → p n ≡ false → count_below p (suc n) ≡ count_below p n
unfolding count_below
count_miss p n h = rw h

pub count_step : (p : ℕ → Bool) (n : ℕ) → count_below p n ≤ count_below p (suc n)
count_step p n = go (p n) refl
  where
    go : (t : Bool) → p n ≡ t → count_below p n ≤ count_below p (suc n)
    go true e = omega (arith, count_hit p n e)
    go false e = omega (arith, count_miss p n e)

pub count_mono : (p : ℕ → Bool) (m n : ℕ) → m ≤ n → count_below p m ≤ count_below p n
count_mono p m n h = le_ind (λ (k : ℕ). count_below p m ≤ count_below p k) (le_refl (count_below p m)) (λ k l e. omega (arith, count_step p k)) n h

pub count_bound : (p : ℕ → Bool) (n : ℕ) → count_below p n ≤ n
unfolding count_below
count_bound p zero = le_refl 0
count_bound p (suc n) = go (p n) refl (count_bound p n)
  where
    go : (t : Bool) → p n ≡ t → count_below p n ≤ n → count_below p (suc n) ≤ suc n
    go true e h = omega (arith, count_hit p n e)
    go false e h = omega (arith, count_miss p n e)

-- The counts up to and with two numbers that pass the test are in the numbers' order.
pub count_strict : (p : ℕ → Bool) (m n : ℕ) → p n ≡ true → m < n → count_below p (suc m) < count_below p (suc n)
count_strict p m n h l = omega (arith, count_hit p n h, count_mono p (suc m) n l)

pub count_same : (p q : ℕ → Bool) (n : ℕ) → ((i : ℕ) → i < n → p i ≡ q i) → count_below p n ≡ count_below q n
unfolding count_below
count_same p q zero h = refl
count_same p q (suc n) h =
    rw (h n (le_refl (suc n)), count_same p q n (λ i l. h i (omega arith)))

-- A count rises no faster than that of a weaker test.
pub count_rise : (p q : ℕ → Bool) (n : ℕ) → (p n ≡ true → q n ≡ true) → count_below p (suc n) + count_below q n ≤ count_below q (suc n) + count_below p n
count_rise p q n h = go (p n) refl (q n) refl
  where
    go : (a : Bool) → p n ≡ a → (b : Bool) → q n ≡ b → count_below p (suc n) + count_below q n ≤ count_below q (suc n) + count_below p n
    go true a true b = omega (arith, count_hit p n a, count_hit q n b)
    go true a false b = absurd (true≢false (sym (h a) ∙ b))
    go false a true b = omega (arith, count_miss p n a, count_hit q n b)
    go false a false b = omega (arith, count_miss p n a, count_miss q n b)

pub count_le : (p q : ℕ → Bool) (n : ℕ) → ((i : ℕ) → i < n → p i ≡ true → q i ≡ true) → count_below p n ≤ count_below q n
unfolding count_below
count_le p q zero h = le_refl 0
count_le p q (suc n) h = omega (arith, count_rise p q n (h n (le_refl (suc n))), count_le p q n (λ i l. h i (omega arith)))

-- The first a numbers, and the b after them.
pub count_rest : (p : ℕ → Bool) (a b : ℕ) → count_below p (a + b) ≡ count_below p a + count_below (λ k. p (a + k)) b
unfolding count_below
count_rest p a zero = rw (add-zero a) (omega arith)
count_rest p a (suc b) =
    by_test (p (a + b))
    (λ t. rw (add-suc a b, t) (omega (arith, count_rest p a b)))
    (λ t. rw (add-suc a b, t) (count_rest p a b))

count_front : (p : ℕ → Bool) (n : ℕ) → count_below p (suc n) ≡ count_below p 1 + count_below (λ j. p (suc j)) n
count_front p n =
    let s : suc n ≡ 1 + n = omega arith in
    let c : count_below (λ j. p (1 + j)) n ≡ count_below (λ j. p (suc j)) n = count_same (λ j. p (1 + j)) (λ j. p (suc j)) n (λ j _. ap p (omega arith)) in
    ap (count_below p) s ∙ count_rest p 1 n ∙ ap (λ (k : ℕ). count_below p 1 + k) c

-- How many entries of a list pass a test.
pub keep_count : (p : ℕ → Bool) (l : List ℕ) → length (keep p l) ≡ count_below (λ j. p (get_or l j 0)) (length l)
unfolding count_below
keep_count p [] = refl
keep_count p (x ∷ l) =
    let at : ℕ → Bool = λ j. p (get_or (x ∷ l) j 0) in
    by_test (p x)
    (λ t. rw t (omega (arith, keep_count p l, count_front at (length l), count_hit at 0 t)))
    (λ t. rw t (omega (arith, keep_count p l, count_front at (length l), count_miss at 0 t)))

-- ---- `number_by`

module _ (f : ℕ → ℕ) (act : ℕ → Bool) where
  pub leader_of : (x : ℕ) → f (f x) ≡ f x → act (f x) ≡ true → leader f act (f x) ≡ true
  unfolding leader
  leader_of x e a = rw (a, eq-eqb (f (f x)) (f x) e)

  -- A leader has one more than there are leaders before it.
  pub number_leader : (r : ℕ) → f r ≡ r → act r ≡ true → number_by f act r ≡ suc (count_below (leader f act) r)
  unfolding number_by leader
  number_leader r e a = rw e (count_hit (leader f act) r (rw (a, eq-eqb (f r) r e)))

  pub number_same : (x y : ℕ) → f x ≡ f y → number_by f act x ≡ number_by f act y
  unfolding number_by
  number_same x y e = rw e

  -- The numbers are in the order of the leaders.
  pub number_order : (x y : ℕ) → f (f y) ≡ f y → act (f y) ≡ true → f x < f y → number_by f act x < number_by f act y
  unfolding number_by
  number_order x y e a l = count_strict (leader f act) (f x) (f y) (leader_of y e a) l

  pub number_inj : ((x : ℕ) → f (f x) ≡ f x) → (x y : ℕ) → act (f x) ≡ true → act (f y) ≡ true
      → number_by f act x ≡ number_by f act y → f x ≡ f y
  number_inj idem x y ax ay e = go (leb (f x) (f y)) refl (leb (f y) (f x)) refl
    where
      go : (s : Bool) → leb (f x) (f y) ≡ s → (t : Bool) → leb (f y) (f x) ≡ t → f x ≡ f y
      go true s true t = omega (arith, leb-true (f x) (f y) s, leb-true (f y) (f x) t)
      go true s false t = absurd (omega (arith, number_order x y (idem y) ay (leb-false (f y) (f x) t)))
      go false s true t = absurd (omega (arith, number_order y x (idem x) ax (leb-false (f x) (f y) s)))
      go false s false t = omega (arith, leb-false (f x) (f y) s, leb-false (f y) (f x) t)

-- ---- what an active id's number says, where a class is active or not as a whole

-- A number passes the test, with k before it that do.
pub record Nth (p : ℕ → Bool) (n k : ℕ) : Type 0 where
  pub at : ℕ
  pub less : at < n
  pub passes : p at ≡ true
  pub before : count_below p at ≡ k

pub nth_passes : (p : ℕ → Bool) (n k : ℕ) → k < count_below p n → Nth p n k
unfolding count_below
nth_passes p zero k h = absurd (omega arith)
nth_passes p (suc n) k h = go (p n) refl (λ l. nth_passes p n k l)
  where
    later : Nth p n k → Nth p (suc n) k
    later r = record { at = r.at; less = omega (arith, r.less); passes = r.passes; before = r.before }

    go : (t : Bool) → p n ≡ t → (k < count_below p n → Nth p n k) → Nth p (suc n) k
    go true e ih =
        by_test (ltb k (count_below p n)) (λ u. later (ih (ltb-true _ _ u)))
        (λ u. record { at = n; less = le_refl (suc n); passes = e; before = omega (arith, ltb-false k (count_below p n) u, count_hit p n e) })
    go false e ih = later (ih (omega (arith, count_miss p n e)))

pub path_act : (es : List Edge) (act : ℕ → Bool) → ((e : Edge) → Memᴰ e es → (act e.from ≡ true) × (act e.to ≡ true))
    → {x y : ℕ} → Linked es x y → act x ≡ act y
path_act es act h stay = refl
path_act es act h (along {e = e} i) = (h e i).0 ∙ sym (h e i).1
path_act es act h (back p) = sym (path_act es act h p)
path_act es act h (via p q) = path_act es act h p ∙ path_act es act h q

-- An id that is not active is alone.
pub path_alone : (es : List Edge) (act : ℕ → Bool) → ((e : Edge) → Memᴰ e es → (act e.from ≡ true) × (act e.to ≡ true))
    → {x y : ℕ} → Linked es x y → act x ≡ false → x ≡ y
path_alone es act h stay a = refl
path_alone es act h (along {e = e} i) a = absurd (true≢false (sym (h e i).0 ∙ a))
path_alone es act h (back p) a = sym (path_alone es act h p (path_act es act h p ∙ a))
path_alone es act h (via p q) a = path_alone es act h p a ∙ path_alone es act h q (sym (path_act es act h p) ∙ a)

-- The least ids of active ids are active.
pub record Leaders (f : ℕ → ℕ) (act : ℕ → Bool) : Type 0 where
  pub low : (x : ℕ) → f x ≤ x
  pub idem : (x : ℕ) → f (f x) ≡ f x
  pub actives : (x : ℕ) → act x ≡ true → act (f x) ≡ true

module _ (f : ℕ → ℕ) (act : ℕ → Bool) (H : Leaders f act) where
  pub label_off : (x : ℕ) → act x ≡ false → label f act x ≡ 0
  unfolding label
  label_off x a = rw a

  pub label_leader : (r : ℕ) → f r ≡ r → act r ≡ true → label f act r ≡ suc (count_below (leader f act) r)
  unfolding label
  label_leader r e a = rw a (number_leader f act r e a)

  -- An active id has its least id's number.
  pub label_root : (x : ℕ) → act x ≡ true → label f act x ≡ label f act (f x)
  unfolding label
  label_root x a = rw (a, H.actives x a) (number_same f act x (f x) (sym (H.idem x)))

  pub label_is : (x : ℕ) → act x ≡ true → label f act x ≡ suc (count_below (leader f act) (f x))
  label_is x a = label_root x a ∙ label_leader (f x) (H.idem x) (H.actives x a)

  pub label_same : (x y : ℕ) → act x ≡ true → act y ≡ true → f x ≡ f y → label f act x ≡ label f act y
  label_same x y a b e = label_root x a ∙ ap (label f act) e ∙ sym (label_root y b)

  pub label_inj : (x y : ℕ) → act x ≡ true → act y ≡ true → label f act x ≡ label f act y → f x ≡ f y
  unfolding label
  label_inj x y a b e = number_inj f act H.idem x y (H.actives x a) (H.actives y b) (rw (a, b) at e)

  -- Each smaller number is a leader's, at an earlier id.
  pub label_earlier : (x k : ℕ) → act x ≡ true → 0 < k → k < label f act x → (q : ℕ) × (q < x) × (act q ≡ true) × (label f act q ≡ k)
  unfolding leader
  label_earlier x k a h l =
      let r : Nth (leader f act) (f x) (k - 1) = nth_passes (leader f act) (f x) (k - 1) (omega (arith, label_is x a)) in
      let q = r.at in
      let b : act q ≡ true = and_first (act q) (eqb (f q) q) r.passes in
      let g : f q ≡ q = eqb-true (f q) q (and_second (act q) (eqb (f q) q) r.passes) in
      (q, omega (arith, r.less, H.low x), b, omega (arith, label_leader q g b, r.before))

  -- No number of the first n ids is above the count of their leaders, which is one of them.
  pub label_bound : (n x : ℕ) → x < n → label f act x ≤ count_below (leader f act) n
  label_bound n x h =
      by_test (act x)
      (λ a. omega (arith, label_is x a, count_hit (leader f act) (f x) (leader_of f act x (H.idem x) (H.actives x a)), count_mono (leader f act) (suc (f x)) n (omega (arith, H.low x))))
      (λ a. omega (arith, label_off x a))

  pub label_last : (n : ℕ) → 0 < count_below (leader f act) n → (q : ℕ) × (q < n) × (act q ≡ true) × (label f act q ≡ count_below (leader f act) n)
  unfolding leader
  label_last n h =
      let r : Nth (leader f act) n (count_below (leader f act) n - 1) = nth_passes (leader f act) n (count_below (leader f act) n - 1) (omega arith) in
      let q = r.at in
      let b : act q ≡ true = and_first (act q) (eqb (f q) q) r.passes in
      let g : f q ≡ q = eqb-true (f q) q (and_second (act q) (eqb (f q) q) r.passes) in
      (q, r.less, b, omega (arith, label_leader q g b, r.before))
