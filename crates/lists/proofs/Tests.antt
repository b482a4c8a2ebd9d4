-- Tests over all or some entries of a list.
-- Assumes nothing.
use mathlib.Core.Path.{◌≡◌, refl, sym, ap, ◌∙◌}
use mathlib.Core.Bool.{Bool, true, false, not, ◌||◌, true≢false}
use mathlib.Core.Logic.{◌⊎◌, inl, inr}
use mathlib.Core.List.Memᴰ
use mathlib.Core.List.{List, [], ◌∷◌, Memᴰ}
use Prim.Native.Nat.{ℕ, suc, ◌+◌, ◌-◌, ◌≤◌, ◌<◌}
use native.Mathlib.Omega.{arith}
use lib.Dec.{eqb}
use lib.ListN.{get_or}
use borrow.Author.Tests.{eqb-true, eqb-false, eq-eqb, not-true, not-false}
use Rattle.lists.specs.Lists.{consecutive, keep, all_of, some_of, is_in}
use Rattle.lists.proofs.Lists.{consecutive_in, consecutive_out}
use Rattle.lists.proofs.Cases.{by_test, and_first, and_second, and_both, neither, or_on_left, or_on_right}

module _ {A : Type 0} where
  pub all_in : (f : A → Bool) (l : List A) → ((x : A) → Memᴰ x l → f x ≡ true) → all_of f l ≡ true
  all_in f [] h = refl
  all_in f (x ∷ l) h = and_both (f x) (all_of f l) (h x (Memᴰ.head refl)) (all_in f l (λ y m. h y (Memᴰ.tail m)))

  pub all_out : (f : A → Bool) (l : List A) {x : A} → all_of f l ≡ true → Memᴰ x l → f x ≡ true
  all_out f [] e m = absurd (Memᴰ.not-nil m)
  all_out f (y ∷ l) {x} e m = go (Memᴰ.cases_cons m) (λ k. all_out f l (and_second (f y) (all_of f l) e) k)
    where
      go : (x ≡ y) ⊎ Memᴰ x l → (Memᴰ x l → f x ≡ true) → f x ≡ true
      go (inl q) ih = ap f q ∙ and_first (f y) (all_of f l) e
      go (inr k) ih = ih k

  pub all_same : (f g : A → Bool) (l : List A) → ((x : A) → f x ≡ g x) → all_of f l ≡ all_of g l
  all_same f g [] h = refl
  all_same f g (x ∷ l) h = rw (h x, all_same f g l h) refl

  pub some_none : (f : A → Bool) (l : List A) {d : A} → some_of f l ≡ false → Memᴰ d l → f d ≡ false
  some_none f [] e m = absurd (Memᴰ.not-nil m)
  some_none f (x ∷ l) {d} e m = go (Memᴰ.cases_cons m) (λ k. some_none f l (neither (f x) (some_of f l) e).1 k)
    where
      go : (d ≡ x) ⊎ Memᴰ d l → (Memᴰ d l → f d ≡ false) → f d ≡ false
      go (inl q) ih = ap f q ∙ (neither (f x) (some_of f l) e).0
      go (inr k) ih = ih k

  pub none_some : (f : A → Bool) (l : List A) → ((x : A) → Memᴰ x l → f x ≡ false) → some_of f l ≡ false
  none_some f [] h = refl
  none_some f (x ∷ l) h = rw (h x (Memᴰ.head refl)) (none_some f l (λ y m. h y (Memᴰ.tail m)))

  pub some_true : (f : A → Bool) (l : List A) {d : A} → Memᴰ d l → f d ≡ true → some_of f l ≡ true
  some_true f [] m t = absurd (Memᴰ.not-nil m)
  some_true f (x ∷ l) {d} m t = go (Memᴰ.cases_cons m) (λ k. some_true f l k t)
    where
      go : (d ≡ x) ⊎ Memᴰ d l → (Memᴰ d l → some_of f l ≡ true) → (f x || some_of f l) ≡ true
      go (inl e) ih = or_on_left (f x) (some_of f l) (ap f (sym e) ∙ t)
      go (inr k) ih = or_on_right (f x) (some_of f l) (ih k)

  pub some_where : (f : A → Bool) (l : List A) → some_of f l ≡ true → (d : A) × Memᴰ d l × (f d ≡ true)
  some_where f [] t = absurd (true≢false (sym t))
  some_where f (x ∷ l) t =
      by_test (f x) (λ q. (x, Memᴰ.head refl, q))
      (λ q. let r = some_where f l (rw q at t) in (r.0, Memᴰ.tail r.1, r.2))

  pub some_not_all : (f : A → Bool) (l : List A) → some_of f l ≡ not (all_of (λ x. not (f x)) l)
  some_not_all f [] = refl
  some_not_all f (x ∷ l) = by_test (f x) (λ t. rw t) (λ t. rw t (some_not_all f l))

  -- two lists with the same members pass the same tests
  pub some_same : (f : A → Bool) (l m : List A) → ((d : A) → Memᴰ d l → Memᴰ d m) → ((d : A) → Memᴰ d m → Memᴰ d l) → some_of f l ≡ some_of f m
  some_same f l m g h =
      by_test (some_of f l)
      (λ t. let r = some_where f l t in t ∙ sym (some_true f m (g r.0 r.1) r.2))
      (λ t. by_test (some_of f m) (λ u. let r = some_where f m u in absurd (true≢false (sym (some_true f l (h r.0 r.1) r.2) ∙ t))) (λ u. t ∙ sym u))

  -- a loop over a list: b is what the whole list answers, and k what is left of it
  module _ (f : A → Bool) {b : Bool} {k : List A} (e : b ≡ some_of f k) where
    pub some_here : {m : List A} {x : A} → k ≡ x ∷ m → f x ≡ true → true ≡ b
    some_here s t = sym (e ∙ rw (s, t))

    pub some_next : {m : List A} {x : A} → k ≡ x ∷ m → f x ≡ false → b ≡ some_of f m
    some_next s t = e ∙ rw (s, t)

  pub keep_all : (f : A → Bool) (l : List A) → ((y : A) → Memᴰ y l → f y ≡ true) → keep f l ≡ l
  keep_all f [] h = refl
  keep_all f (x ∷ l) h = rw (h x (Memᴰ.head refl)) (ap {B = List A} (λ r. x ∷ r) (keep_all f l (λ y m. h y (Memᴰ.tail m))))

  pub keep_same : (f g : A → Bool) (l : List A) → ((x : A) → Memᴰ x l → f x ≡ g x) → keep f l ≡ keep g l
  keep_same f g [] s = refl
  keep_same f g (x ∷ l) s =
      let ih : keep f l ≡ keep g l = keep_same f g l (λ y m. s y (Memᴰ.tail m)) in
      rw (s x (Memᴰ.head refl), ih)

-- ---- the entries of a list

pub is_in_lem : (l : List ℕ) {x : ℕ} → Memᴰ x l → is_in l x ≡ true
unfolding is_in
is_in_lem [] m = absurd (Memᴰ.not-nil m)
is_in_lem (y ∷ l) {x} m = go (Memᴰ.cases_cons m) (λ k. is_in_lem l k)
  where
    go : (x ≡ y) ⊎ Memᴰ x l → (Memᴰ x l → some_of (λ z. eqb z x) l ≡ true) → (eqb y x || some_of (λ z. eqb z x) l) ≡ true
    go (inl e) ih = rw (eq-eqb y x (sym e)) refl
    go (inr k) ih = by_test (eqb y x) (λ t. rw t refl) (λ t. rw t (ih k))

pub in_is : (l : List ℕ) {x : ℕ} → is_in l x ≡ true → Memᴰ x l
unfolding is_in
in_is [] e = absurd (true≢false (sym e))
in_is (y ∷ l) {x} e = by_test (eqb y x) (λ t. Memᴰ.head (sym (eqb-true y x t))) (λ t. Memᴰ.tail (in_is l (rw t at e)))

-- the first entry of a list that has one
pub first_in_lem : (l : List ℕ) {x : ℕ} → Memᴰ x l → Memᴰ (get_or l 0 0) l
first_in_lem [] m = absurd (Memᴰ.not-nil m)
first_in_lem (y ∷ l) m = Memᴰ.head refl

-- ---- implications

pub implied : (s u : Bool) → (not s || u) ≡ true → s ≡ true → u ≡ true
implied true u e f = e
implied false u e f = absurd (true≢false (sym f))

pub implies : (s u : Bool) → (s ≡ true → u ≡ true) → (not s || u) ≡ true
implies true u h = h refl
implies false u h = refl

-- ---- loops that ask the same of k numbers from x on

-- The test goes on where x passes, it fails where x does not, and it passes where all from x on do, or none is left.
module _ (f : ℕ → Bool) (x k : ℕ) where
  pub test_same : (y j : ℕ) → x ≡ y → k ≡ j → all_of f (consecutive x k) ≡ all_of f (consecutive y j)
  test_same y j e d = rw (e, d)

  pub test_passed : (y j : ℕ) → k ≡ suc j → y ≡ suc x → f x ≡ true → all_of f (consecutive y j) ≡ all_of f (consecutive x k)
  unfolding consecutive
  test_passed y j e d t = rw (e, d, t)

  pub test_failed : 0 < k → f x ≡ false → false ≡ all_of f (consecutive x k)
  unfolding consecutive
  test_failed h t = let e : k ≡ suc (k - 1) = omega arith in rw (e, t)

  pub test_rest : ((y : ℕ) → x ≤ y → f y ≡ true) → true ≡ all_of f (consecutive x k)
  test_rest h = sym (all_in f (consecutive x k) (λ y m. h y (consecutive_out x k m).0))

  pub test_none : k ≡ 0 → true ≡ all_of f (consecutive x k)
  unfolding consecutive
  test_none e = rw e

-- ---- loops that ask the same of each of the first places

module _ (g : ℕ → Bool) where
  abbrev pub TrueBelow : ℕ → Type 0
  TrueBelow i = (x : ℕ) → x < i → g x ≡ true

  pub true_below_none : TrueBelow 0
  true_below_none x h = absurd (omega arith)

  pub true_below_more : (i : ℕ) (t : Bool) → TrueBelow i → t ≡ g i → not t ≡ false → TrueBelow (i + 1)
  true_below_more i t h e q x l =
      by_test (eqb x i) (λ u. ap g (eqb-true x i u) ∙ sym e ∙ not-false t q) (λ u. let d : x ≡ i → ⊥ = eqb-false x i u in h x (omega arith))

  pub true_below_broken : (n i : ℕ) (t : Bool) → i < n → t ≡ g i → not t ≡ true → false ≡ all_of g (consecutive 0 n)
  true_below_broken n i t h e q =
      by_test (all_of g (consecutive 0 n))
      (λ u. sym (sym (all_out g (consecutive 0 n) u (consecutive_in 0 n (omega arith) (omega arith))) ∙ sym e ∙ not-true t q) ∙ sym u)
      (λ u. sym u)

  pub true_below_all : (n i : ℕ) → n ≤ i → TrueBelow i → true ≡ all_of g (consecutive 0 n)
  true_below_all n i h a = sym (all_in g (consecutive 0 n) (λ x m. a x (omega (arith, consecutive_out 0 n m))))
