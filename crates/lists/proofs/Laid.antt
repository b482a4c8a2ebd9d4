-- A list laid over another, piece by piece.
-- Assumes nothing.
use mathlib.Core.Path.{◌≡◌, refl, sym, ◌∙◌}
use mathlib.Core.List.{List, [], ◌∷◌, ◌++◌}
use Prim.Native.Nat.{ℕ, suc, ◌+◌, ◌≤◌, ◌<◌}
use native.Mathlib.Numerals.{add-one}
use native.Mathlib.Omega.{arith}
use lib.ListN.{length, drop, set, length-append}
use lib.Seq.{sets, sets-eq, length-sets}
use Rattle.lists.specs.Lists.{laid}

-- what is laid is what single stores leave
laid_sets : (p : ℕ) (bs t : List ℕ) → p + length bs ≤ length t → laid p bs t ≡ sets t p bs
unfolding laid
laid_sets p bs t h = sym (sets-eq bs t p h)

sets_append : (a b t : List ℕ) (p : ℕ) → sets t p (a ++ b) ≡ sets (sets t p a) (p + length a) b
sets_append [] b t p = let z : p + 0 ≡ p = omega arith in rw z
sets_append (x ∷ a) b t p = let s : p + suc (length a) ≡ suc p + length a = omega arith in rw s (sets_append a b (set t p x) (suc p))

module _ (p : ℕ) (bs t : List ℕ) (h : p + length bs ≤ length t) where
  pub length-laid : length (laid p bs t) ≡ length t
  length-laid = rw (laid_sets p bs t h) (length-sets t p bs)

-- Two pieces, one after the other.
pub laid_append : (p : ℕ) (a b t : List ℕ) → p + length a + length b ≤ length t → laid p (a ++ b) t ≡ laid (p + length a) b (laid p a t)
laid_append p a b t h =
    let k : p + length (a ++ b) ≤ length t = rw (length-append a b) (omega arith) in
    let i : p + length a ≤ length t = omega arith in
    let j : p + length a + length b ≤ length (sets t p a) = rw (length-sets t p a) h in
    rw (laid_sets p (a ++ b) t k, laid_sets p a t i, laid_sets (p + length a) b (sets t p a) j) (sets_append a b t p)

pub laid_next : (p q : ℕ) (a b t : List ℕ) → q ≡ p + length a → q + length b ≤ length t → laid q b (laid p a t) ≡ laid p (a ++ b) t
laid_next p q a b t e h = rw e (sym (laid_append p a b t (omega arith)))

-- Nothing, one entry, two, and four.
pub laid_none : (p : ℕ) (t : List ℕ) → p ≤ length t → t ≡ laid p [] t
laid_none p t h = sym (laid_sets p [] t (omega arith))

pub laid_one : (p x : ℕ) (t : List ℕ) → p < length t → set t p x ≡ laid p (x ∷ []) t
laid_one p x t h = sym (laid_sets p (x ∷ []) t (omega arith))

pub laid_two : (p x y : ℕ) (t : List ℕ) → p + 2 ≤ length t → set (set t p x) (p + 1) y ≡ laid p (x ∷ y ∷ []) t
laid_two p x y t h = rw (laid_sets p (x ∷ y ∷ []) t (omega arith), add-one)

pub laid_four : (p x y z w : ℕ) (t : List ℕ) → p + 4 ≤ length t → set (set (set (set t p x) (p + 1) y) (p + 2) z) (p + 3) w ≡ laid p (x ∷ y ∷ z ∷ w ∷ []) t
laid_four p x y z w t h =
    let a : p + 1 ≡ suc p = omega arith in
    let b : p + 2 ≡ suc (suc p) = omega arith in
    let c : p + 3 ≡ suc (suc (suc p)) = omega arith in
    rw (laid_sets p (x ∷ y ∷ z ∷ w ∷ []) t (omega arith), a, b, c)

-- One entry more, and five.
pub laid_more : (p n x : ℕ) (bs t : List ℕ) → length bs ≡ n → p + n < length t → set (laid p bs t) (p + n) x ≡ laid p (bs ++ (x ∷ [])) t
laid_more p n x bs t e h =
    let i : p + n < length (laid p bs t) = rw (length-laid p bs t (omega arith)) h in
    laid_one (p + n) x (laid p bs t) i ∙ sym (rw e at (laid_append p bs (x ∷ []) t (omega arith)))

pub laid_five : (p x y z w v : ℕ) (t : List ℕ) → p + 5 ≤ length t
    → set (set (set (set (set t p x) (p + 1) y) (p + 2) z) (p + 3) w) (p + 4) v ≡ laid p (x ∷ y ∷ z ∷ w ∷ v ∷ []) t
laid_five p x y z w v t h = rw (laid_four p x y z w t (omega arith)) (laid_more p 4 v (x ∷ y ∷ z ∷ w ∷ []) t refl (omega arith))

-- From the start.
pub laid_front : (bs t : List ℕ) → laid 0 bs t ≡ bs ++ drop (length bs) t
unfolding laid
laid_front bs t = let z : 0 + length bs ≡ length bs = omega arith in rw z
