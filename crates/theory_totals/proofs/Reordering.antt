-- Lists in another order: what each step of a computation makes of them, and when two lists without repeats are one in another order.
-- Assumes nothing.
use mathlib.Core.Path.{◌≡◌, refl, sym, ap, ◌∙◌, subst}
use mathlib.Core.Bool.{Bool, true, false, cond}
use mathlib.Core.Logic.{◌≢◌, ⊎_elim}
use mathlib.Core.List.{List, [], ◌∷◌, ◌++◌, map, Memᴰ}
use Prim.Native.Nat.{ℕ, suc}
use native.Mathlib.Omega.{arith}
use lib.Dec.{eqb}
use borrow.Author.Tests.{eqb-true, eqb-false}
use Rattle.lists.specs.Lists.{keep}
use Rattle.lists.proofs.Cases.{by_test}
use Rattle.lists.proofs.Lists.{Ascends, ascends_le}
use Rattle.strains.specs.Readings.{Reordered, none, both, swap, then}
use Rattle.totals.specs.Totals.{Taken}
use Rattle.strain_calls.specs.Adding.{gathered}

-- ---- steps

module _ {A : Type 0} where
  pub re_refl : (xs : List A) → Reordered xs xs
  re_refl [] = none
  re_refl (x ∷ xs) = both (re_refl xs)

  pub re_sym : {xs ys : List A} → Reordered xs ys → Reordered ys xs
  re_sym none = none
  re_sym (both p) = both (re_sym p)
  re_sym swap = swap
  re_sym (then p q) = then (re_sym q) (re_sym p)

  pub re_same : {xs ys : List A} → xs ≡ ys → Reordered xs ys
  re_same {xs} e = subst (Reordered xs) e (re_refl xs)

  pub re_after : (zs : List A) {xs ys : List A} → Reordered xs ys → Reordered (zs ++ xs) (zs ++ ys)
  re_after [] p = p
  re_after (z ∷ zs) p = both (re_after zs p)

  -- an entry to the front, a list to the front
  re_front : (x : A) (xs ys : List A) → Reordered (xs ++ (x ∷ ys)) (x ∷ (xs ++ ys))
  re_front x [] ys = re_refl (x ∷ ys)
  re_front x (z ∷ xs) ys = then (both (re_front x xs ys)) swap

  re_exchange : (xs ys zs : List A) → Reordered (xs ++ (ys ++ zs)) (ys ++ (xs ++ zs))
  re_exchange [] ys zs = re_refl (ys ++ zs)
  re_exchange (x ∷ xs) ys zs = then (both (re_exchange xs ys zs)) (re_sym (re_front x ys (xs ++ zs)))

  pub re_map : {B : Type 0} (f : A → B) {xs ys : List A} → Reordered xs ys → Reordered (map f xs) (map f ys)
  re_map f none = none
  re_map f (both p) = both (re_map f p)
  re_map f swap = swap
  re_map f (then p q) = then (re_map f p) (re_map f q)

  pub re_keep : (f : A → Bool) {xs ys : List A} → Reordered xs ys → Reordered (keep f xs) (keep f ys)
  re_keep f none = none
  re_keep f (both {x = x} {xs = xs} {ys = ys} p) = by_test (f x) (λ t. rw t (both (re_keep f p))) (λ t. rw t (re_keep f p))
  re_keep f (swap {x = x} {y = y} {xs = xs}) =
      by_test (f x) (λ t. by_test (f y) (λ u. rw (t, u) swap) (λ u. rw (t, u) (re_refl (x ∷ keep f xs))))
      (λ t. by_test (f y) (λ u. rw (t, u) (re_refl (y ∷ keep f xs))) (λ u. rw (t, u) (re_refl (keep f xs))))
  re_keep f (then p q) = then (re_keep f p) (re_keep f q)

pub re_gathered : (f : ℕ → List Taken) {ps qs : List ℕ} → Reordered ps qs → Reordered (gathered f ps) (gathered f qs)
unfolding gathered
re_gathered f none = none
re_gathered f (both {x = p} r) = re_after (f p) (re_gathered f r)
re_gathered f (swap {x = p} {y = q} {xs = ps}) = re_exchange (f p) (f q) (gathered f ps)
re_gathered f (then r s) = then (re_gathered f r) (re_gathered f s)

-- ---- without repeats

-- no entry stands in the list twice
abbrev pub NoRepeats : List ℕ → Type 0
NoRepeats [] = Unit {0}
NoRepeats (x ∷ xs) = (Memᴰ x xs → ⊥) × NoRepeats xs

-- the list without the first x
unfoldable without : ℕ → List ℕ → List ℕ
without x [] = []
without x (y ∷ ys) = cond (eqb y x) ys (y ∷ without x ys)

module _ (x y : ℕ) (ys : List ℕ) where
  remove_here : eqb y x ≡ true → without x (y ∷ ys) ≡ ys
  unfolding without
  remove_here t = rw t

  remove_later : eqb y x ≡ false → without x (y ∷ ys) ≡ y ∷ without x ys
  unfolding without
  remove_later t = rw t

removed : (x : ℕ) (ys : List ℕ) → Memᴰ x ys → Reordered ys (x ∷ without x ys)
removed x [] m = absurd (mathlib.Core.List.Memᴰ.not-nil m)
removed x (y ∷ ys) m =
    by_test (eqb y x)
    (λ t. re_same (ap (λ (z : ℕ). z ∷ ys) (eqb-true y x t) ∙ ap (λ (l : List ℕ). x ∷ l) (sym (remove_here x y ys t))))
    (λ t.
    then (both (removed x ys (⊎_elim (λ e. absurd (eqb-false y x t (sym e))) (λ k. k) (mathlib.Core.List.Memᴰ.cases_cons m))))
    (then swap (re_same (ap (λ (l : List ℕ). x ∷ l) (sym (remove_later x y ys t))))))

mem_removed : (x : ℕ) (ys : List ℕ) {z : ℕ} → Memᴰ z (without x ys) → Memᴰ z ys
unfolding without
mem_removed x [] m = m
mem_removed x (y ∷ ys) {z} m =
    by_test (eqb y x)
    (λ t. mathlib.Core.List.Memᴰ.tail (subst (Memᴰ z) (remove_here x y ys t) m))
    (λ t. ⊎_elim (λ e. mathlib.Core.List.Memᴰ.head e) (λ k. mathlib.Core.List.Memᴰ.tail (mem_removed x ys k)) (mathlib.Core.List.Memᴰ.cases_cons (subst (Memᴰ z) (remove_later x y ys t) m)))

mem_kept : (x : ℕ) (ys : List ℕ) {z : ℕ} → Memᴰ z ys → z ≢ x → Memᴰ z (without x ys)
mem_kept x [] m n = absurd (mathlib.Core.List.Memᴰ.not-nil m)
mem_kept x (y ∷ ys) {z} m n =
    by_test (eqb y x)
    (λ t. subst (Memᴰ z) (sym (remove_here x y ys t)) (⊎_elim (λ e. absurd (n (e ∙ eqb-true y x t))) (λ k. k) (mathlib.Core.List.Memᴰ.cases_cons m)))
    (λ t. subst (Memᴰ z) (sym (remove_later x y ys t)) (⊎_elim (λ e. mathlib.Core.List.Memᴰ.head e) (λ k. mathlib.Core.List.Memᴰ.tail (mem_kept x ys k n)) (mathlib.Core.List.Memᴰ.cases_cons m)))

unique_removed : (x : ℕ) (ys : List ℕ) → NoRepeats ys → NoRepeats (without x ys) × (Memᴰ x (without x ys) → ⊥)
unfolding without
unique_removed x [] u = (tt, λ m. mathlib.Core.List.Memᴰ.not-nil m)
unique_removed x (y ∷ ys) u =
    by_test (eqb y x)
    (λ t. subst (λ (l : List ℕ). NoRepeats l × (Memᴰ x l → ⊥)) (sym (remove_here x y ys t)) (u.1, λ m. u.0 (mathlib.Core.List.Memᴰ.cast (eqb-true y x t) m)))
    (λ t.
    let r = unique_removed x ys u.1 in
    subst (λ (l : List ℕ). NoRepeats l × (Memᴰ x l → ⊥)) (sym (remove_later x y ys t))
    ((λ m. u.0 (mem_removed x ys m), r.0), λ m. ⊎_elim (λ e. eqb-false y x t (sym e)) r.1 (mathlib.Core.List.Memᴰ.cases_cons m)))

-- Two lists without repeats that have the same entries.
pub re_unique : (xs ys : List ℕ) → NoRepeats xs → NoRepeats ys → ((z : ℕ) → Memᴰ z xs → Memᴰ z ys) → ((z : ℕ) → Memᴰ z ys → Memᴰ z xs) → Reordered xs ys
re_unique [] [] u v f g = none
re_unique [] (y ∷ ys) u v f g = absurd (mathlib.Core.List.Memᴰ.not-nil (g y (mathlib.Core.List.Memᴰ.head refl)))
re_unique (x ∷ xs) ys u v f g =
    let r = unique_removed x ys v in
    then (both
    (re_unique xs (without x ys) u.1 r.0
    (λ z m. mem_kept x ys (f z (mathlib.Core.List.Memᴰ.tail m)) (λ e. u.0 (mathlib.Core.List.Memᴰ.cast (sym e) m)))
    (λ z m. ⊎_elim (λ e. absurd (r.1 (mathlib.Core.List.Memᴰ.cast (sym e) m))) (λ k. k) (mathlib.Core.List.Memᴰ.cases_cons (g z (mem_removed x ys m))))))
    (re_sym (removed x ys (f x (mathlib.Core.List.Memᴰ.head refl))))

-- ---- where there are no repeats

pub unique_ascends : (b : ℕ) (l : List ℕ) → Ascends b l → NoRepeats l
unique_ascends b [] a = tt
unique_ascends b (x ∷ l) a = (λ m. omega (arith, ascends_le (suc x) l a.1 m), unique_ascends (suc x) l a.1)

pub unique_map : (f : ℕ → ℕ) (l : List ℕ) → ((p q : ℕ) → Memᴰ p l → Memᴰ q l → f p ≡ f q → p ≡ q) → NoRepeats l → NoRepeats (map f l)
unique_map f [] h u = tt
unique_map f (p ∷ l) h u = (
  λ m. let r = mathlib.Core.List.Memᴰ.of_map f l m in u.0 (mathlib.Core.List.Memᴰ.cast (h p r.0 (mathlib.Core.List.Memᴰ.head refl) (mathlib.Core.List.Memᴰ.tail r.1) (sym r.2)) r.1),
  unique_map f l (λ a b m n. h a b (mathlib.Core.List.Memᴰ.tail m) (mathlib.Core.List.Memᴰ.tail n)) u.1,
)

-- two lists without repeats that share no entry
pub unique_append : (a b : List ℕ) → NoRepeats a → NoRepeats b → ((z : ℕ) → Memᴰ z a → Memᴰ z b → ⊥) → NoRepeats (a ++ b)
unique_append [] b u v h = v
unique_append (x ∷ a) b u v h =
    (λ m. ⊎_elim u.0 (h x (mathlib.Core.List.Memᴰ.head refl)) (mathlib.Core.List.Memᴰ.append_cases a m), unique_append a b u.1 v (λ z m. h z (mathlib.Core.List.Memᴰ.tail m)))

-- The lists that f gives at the entries of a list, one after the other.
abbrev pub spread : (ℕ → List ℕ) → List ℕ → List ℕ
spread f [] = []
spread f (b ∷ bs) = f b ++ spread f bs

pub spread_out : (f : ℕ → List ℕ) (bs : List ℕ) {z : ℕ} → Memᴰ z (spread f bs) → (b : ℕ) × Memᴰ b bs × Memᴰ z (f b)
spread_out f [] m = absurd (mathlib.Core.List.Memᴰ.not-nil m)
spread_out f (b ∷ bs) {z} m =
    ⊎_elim {C = (c : ℕ) × Memᴰ c (b ∷ bs) × Memᴰ z (f c)} (λ k. (b, mathlib.Core.List.Memᴰ.head refl, k)) (λ k. let r = spread_out f bs k in (r.0, mathlib.Core.List.Memᴰ.tail r.1, r.2))
    (mathlib.Core.List.Memᴰ.append_cases (f b) m)

pub unique_spread : (f : ℕ → List ℕ) (owner : ℕ → ℕ) (bs : List ℕ) → ((b z : ℕ) → Memᴰ b bs → Memᴰ z (f b) → owner z ≡ b) → ((b : ℕ) → Memᴰ b bs → NoRepeats (f b)) → NoRepeats bs → NoRepeats (spread f bs)
unique_spread f owner [] h g u = tt
unique_spread f owner (b ∷ bs) h g u =
    unique_append (f b) (spread f bs) (g b (mathlib.Core.List.Memᴰ.head refl)) (unique_spread f owner bs (λ c z m. h c z (mathlib.Core.List.Memᴰ.tail m)) (λ c m. g c (mathlib.Core.List.Memᴰ.tail m)) u.1)
    (λ z m n.
    let r = spread_out f bs n in
    u.0 (mathlib.Core.List.Memᴰ.cast (sym (h b z (mathlib.Core.List.Memᴰ.head refl) m) ∙ h r.0 z (mathlib.Core.List.Memᴰ.tail r.1) r.2) r.1))
