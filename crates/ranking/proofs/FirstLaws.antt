-- The classes in a table, and the first one of each class found by one pass over the places.
-- Assumes nothing.
use mathlib.Core.Path.{◌≡◌, refl, sym, ap, ◌∙◌}
use mathlib.Core.Logic.{◌≢◌}
use mathlib.Core.Bool.{Bool, true, false, cond, ◌&&◌}
use mathlib.Core.List.{List}
use Prim.Native.Nat.{ℕ, zero, suc, ◌+◌, ◌≤◌, ◌<◌}
use native.Mathlib.Nat.{le_refl}
use native.Mathlib.Numerals.{add-one}
use native.Mathlib.Omega.{arith}
use lib.Dec.{eqb, ltb}
use lib.ListN.{get_or, length, set}
use lib.Seq.{get_or-set_same, get_or-set_other}
use borrow.Author.Tests.{eq-eqb, ne_eqb, eqb-true, eqb-false, lt-ltb, le-ltb}
use Rattle.lists.specs.Lists.{overlay}
use Rattle.lists.proofs.Cases.{by_test, picked}
use Rattle.lists.proofs.Overlay.{written_long, written_read}
use Rattle.union_find.specs.Links.{parent, root}
use Rattle.union_find.proofs.LinkLaws.{root_low, root_idem, root_own, root_up, parent_low}
use Rattle.ranking.specs.Ranking.{Classes, Leaders, entered, first_of}

-- ---- classes

-- A place that is its own parent is its own class, and any other has its parent's.
pub class_root : (links : List ℕ) (x p : ℕ) → p ≡ parent links x → p ≡ x → x ≡ root links x
class_root links x p e q = sym (root_own links x (sym e ∙ q))

pub class_up : (links cs : List ℕ) (x p : ℕ) → p ≡ parent links x → p ≢ x → ((y : ℕ) → y < x → get_or cs y 0 ≡ root links y)
    → get_or cs p 0 ≡ root links x
class_up links cs x p e d h = h p (omega (arith, parent_low links x)) ∙ root_up links x e

-- The classes of the links are a table of classes.
pub root_classes : (links xs cs : List ℕ) (n : ℕ) → n ≤ length xs → cs ≡ overlay xs 0 (root links) n → Classes cs n
root_classes links xs cs n h e = record {
  long = omega (arith, written_long xs (root links) n cs e);
  low = λ x l. omega (arith, read x l, root_low links x);
  own = λ x l. ap (λ (c : ℕ). get_or cs c 0) (read x l) ∙ read (root links x) (omega (arith, root_low links x)) ∙ root_idem links x ∙ sym (read x l);
}
  where
    read : (x : ℕ) → x < n → get_or cs x 0 ≡ root links x
    read = written_read xs (root links) n cs e h

-- ---- the first one of a class

module _ (keys : List ℕ) (f : ℕ → ℕ) (c : ℕ) where
  first_other : (x : ℕ) → f x ≢ c → first_of keys f c (suc x) ≡ first_of keys f c x
  unfolding first_of
  first_other x d = rw (ne_eqb (f x) c d)

  first_same : (x : ℕ) → f x ≡ c → first_of keys f c (suc x) ≡ cond (ltb (get_or keys x 0) (get_or keys (first_of keys f c x) 0)) x (first_of keys f c x)
  unfolding first_of
  first_same x e = rw (eq-eqb (f x) c e)

  first_none : (k : ℕ) → ((z : ℕ) → z < k → f z ≢ c) → first_of keys f c k ≡ c
  unfolding first_of
  first_none zero h = refl
  first_none (suc k) h = first_other k (h k (le_refl (suc k))) ∙ first_none k (λ z l. h z (omega arith))

  pub first_below : (k m : ℕ) → c < m → k ≤ m → first_of keys f c k < m
  unfolding first_of
  first_below zero m h l = h
  first_below (suc k) m h l =
      picked (λ (y : ℕ). y < m) (eqb (f k) c && ltb (get_or keys k 0) (get_or keys (first_of keys f c k) 0)) k (first_of keys f c k) (λ t. l)
      (λ t. first_below k m h (omega arith))

-- Classes that are the same below n have the same first ones.
pub first_ext : (keys : List ℕ) (f g : ℕ → ℕ) (c n : ℕ) → ((x : ℕ) → x < n → f x ≡ g x) → first_of keys f c n ≡ first_of keys g c n
unfolding first_of
first_ext keys f g c zero h = refl
first_ext keys f g c (suc n) h = rw (h n (le_refl (suc n)), first_ext keys f g c n (λ x l. h x (omega arith)))

-- ---- the pass

-- What `enter` leaves, by its three ways out.
module _ (keys fs : List ℕ) (c x : ℕ) where
  pub enter_root : c ≡ x → set fs x x ≡ entered keys c x fs
  unfolding entered
  enter_root e = rw (eq-eqb c x e)

  pub enter_first : c ≢ x → get_or keys x 0 < get_or keys (get_or fs c 0) 0 → set fs c x ≡ entered keys c x fs
  unfolding entered
  enter_first d l = rw (ne_eqb c x d, lt-ltb (get_or keys x 0) (get_or keys (get_or fs c 0) 0) l)

  pub enter_later : c ≢ x → get_or keys (get_or fs c 0) 0 ≤ get_or keys x 0 → fs ≡ entered keys c x fs
  unfolding entered
  enter_later d l = rw (ne_eqb c x d, le-ltb (get_or keys x 0) (get_or keys (get_or fs c 0) 0) l)

read_picked : (b : Bool) (fs : List ℕ) (c x : ℕ) → c < length fs → get_or (cond b (set fs c x) fs) c 0 ≡ cond b x (get_or fs c 0)
read_picked true fs c x h = get_or-set_same fs c x 0 h
read_picked false fs c x h = refl

pub leaders_none : (keys cs fs : List ℕ) → Leaders keys cs 0 fs
leaders_none keys cs fs = record { at = λ c l. absurd (omega arith) }

module _ (keys cs fs : List ℕ) (n x : ℕ) (C : Classes cs n) (h : x < n) (F : Leaders keys cs x fs) where
  abbrev f : ℕ → ℕ
  f y = get_or cs y 0

  -- Where x is in a class with an earlier place, that class has a first one, with a key.
  pub earlier_first : f x ≢ x → get_or fs (get_or cs x 0) 0 < n
  earlier_first d =
      let l : f x < x = omega (arith, C.low x h) in
      omega (arith, F.at (f x) l (C.own x h), first_below keys f (f x) x n (omega arith) (omega arith))

  -- x is a class of its own.
  own_next : f x ≡ x → n ≤ length fs → (c : ℕ) → c < suc x → f c ≡ c → get_or (set fs x x) c 0 ≡ first_of keys f c (suc x)
  own_next q k c l e =
      by_test (eqb c x)
      (λ t. let s : c ≡ x = eqb-true c x t in
      let v : first_of keys f x x ≡ x = first_none keys f x x (λ z o u. omega (arith, C.low z (omega arith))) in
      let w : ltb (get_or keys x 0) (get_or keys x 0) ≡ false = le-ltb (get_or keys x 0) (get_or keys x 0) (le_refl (get_or keys x 0)) in
      rw s (get_or-set_same fs x x 0 (omega arith) ∙ sym (first_same keys f x x q ∙ (rw (v, w) refl))))
      (λ t. let s : c ≢ x = eqb-false c x t in
      get_or-set_other fs x c x 0 s ∙ F.at c (omega arith) e ∙ sym (first_other keys f c x (λ u. s (sym u ∙ q))))

  -- x is in the class of an earlier place.
  later_next : f x ≢ x → n ≤ length fs → (c : ℕ) → c < suc x → f c ≡ c
      → get_or (cond (ltb (get_or keys x 0) (get_or keys (get_or fs (get_or cs x 0) 0) 0)) (set fs (get_or cs x 0) x) fs) c 0 ≡ first_of keys f c (suc x)
  later_next d k c l e =
      let o : f x < x = omega (arith, C.low x h) in
      let b : Bool = ltb (get_or keys x 0) (get_or keys (get_or fs (f x) 0) 0) in
      by_test (eqb c (f x))
      (λ t. let s : c ≡ f x = eqb-true c (f x) t in
      rw s (read_picked b fs (f x) x (omega arith)
      ∙ ap (λ (y : ℕ). cond (ltb (get_or keys x 0) (get_or keys y 0)) x y) (F.at (f x) o (C.own x h)) ∙ sym (first_same keys f (f x) x refl)))
      (λ t. let s : c ≢ f x = eqb-false c (f x) t in
      let m : c ≢ x = λ u. d (ap f (sym u) ∙ e ∙ u) in
      let v : get_or fs c 0 ≡ first_of keys f c (suc x) = F.at c (omega arith) e ∙ sym (first_other keys f c x (λ u. s (sym u))) in
      picked (λ (r : List ℕ). get_or r c 0 ≡ first_of keys f c (suc x)) b (set fs (f x) x) fs (λ _. get_or-set_other fs (f x) c x 0 s ∙ v) (λ _. v))

  pub leaders_next : n ≤ length fs → (gs : List ℕ) → gs ≡ entered keys (get_or cs x 0) x fs → Leaders keys cs (x + 1) gs
  unfolding entered
  leaders_next k gs q = rw q (record {
    at = λ c l e. rw add-one (by_test (eqb (f x) x)
        (λ t. rw t (own_next (eqb-true (f x) x t) k c (omega arith) e))
        (λ t. rw t (later_next (eqb-false (f x) x t) k c (omega arith) e)));
  })
