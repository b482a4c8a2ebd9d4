-- The laws of `root_of`, and what one changed parent does to the roots. `root_unique` shows what the roots of any forest are.
-- Assumes nothing.
use Prim.Native.Nat.{ℕ, zero, suc, ◌≤◌, ◌<◌}
use native.Mathlib.Nat.{le_refl, le_trans}
use native.Mathlib.Decide.{le_ind}
use native.Mathlib.Omega.{arith}
use mathlib.Core.Bool.{Bool, true, false}
use mathlib.Core.Logic.{◌⊎◌, inl, inr, ⊎_elim}
use mathlib.Core.List.{List, [], ◌∷◌}
use mathlib.Core.Path.{◌≡◌, refl, sym, ap, ◌∙◌}
use lib.Dec.{eqb}
use borrow.Author.Tests.{eqb-true, eqb-false}
use Rattle.closure.specs.Joined.{Edge, merge_ids, join_classes, joins}
use Rattle.closure.specs.Trees.{Forest, ancestor, root_of, Changed, Roots}
use Rattle.closure.proofs.Classes.{merge_comm, merge_self, merge_miss, merge_left, merge_right}

-- y is i, or is not
pub same? : (y i : ℕ) → (y ≡ i) ⊎ ¬ (y ≡ i)
same? y i = go (eqb y i) refl
  where
    go : (t : Bool) → eqb y i ≡ t → (y ≡ i) ⊎ ¬ (y ≡ i)
    go true e = inl (eqb-true y i e)
    go false e = inr (eqb-false y i e)

-- ---- `ancestor`

-- Whatever goes on unchanged from an id to its parent goes on to where the climb ends.
pub climb_keeps : {A : Type 0} (up : ℕ → ℕ) (g : ℕ → A) → ((y : ℕ) → g (up y) ≡ g y) → (n x : ℕ) → g (ancestor up n x) ≡ g x
unfolding ancestor
climb_keeps up g h zero x = refl
climb_keeps up g h (suc n) x = climb_keeps up g h n (up x) ∙ h x

climb_stays : (up : ℕ → ℕ) (n x : ℕ) → up x ≡ x → ancestor up n x ≡ x
unfolding ancestor
climb_stays up zero x h = refl
climb_stays up (suc n) x h = rw h (climb_stays up n x h)

climb_suc : (up : ℕ → ℕ) (n x : ℕ) → ancestor up (suc n) x ≡ up (ancestor up n x)
unfolding ancestor
climb_suc up zero x = refl
climb_suc up (suc n) x = climb_suc up n (up x)

module _ (up : ℕ → ℕ) (F : Forest up) where
  climb_ends : (n x : ℕ) → x ≤ n → up (ancestor up n x) ≡ ancestor up n x
  unfolding ancestor
  climb_ends zero x h = omega (arith, F.down x)
  climb_ends (suc n) x h = ⊎_elim
      (λ (e : up x ≡ x). rw (e, climb_stays up n x e) e)
      (λ (e : ¬ (up x ≡ x)). climb_ends n (up x) (omega (arith, F.down x)))
      (same? (up x) x)

  climb_low : (n x : ℕ) → ancestor up n x ≤ x
  unfolding ancestor
  climb_low zero x = le_refl x
  climb_low (suc n) x = le_trans (climb_low n (up x)) (F.down x)

  -- more steps than x come to the same
  climb_enough : (n x : ℕ) → x ≤ n → ancestor up n x ≡ root_of up x
  unfolding root_of
  climb_enough n x h =
      le_ind (λ (m : ℕ). ancestor up m x ≡ root_of up x) refl (λ m k e. climb_suc up m x ∙ climb_ends m x k ∙ e) n h

  -- ---- `root_of`

  pub root_parent : (x : ℕ) → up (root_of up x) ≡ root_of up x
  unfolding root_of
  root_parent x = climb_ends x x (le_refl x)

  pub root_low : (x : ℕ) → root_of up x ≤ x
  unfolding root_of
  root_low x = climb_low x x

  pub root_fixed : (x : ℕ) → up x ≡ x → root_of up x ≡ x
  unfolding root_of
  root_fixed x h = climb_stays up x x h

  pub root_idem : (x : ℕ) → root_of up (root_of up x) ≡ root_of up x
  root_idem x = root_fixed (root_of up x) (root_parent x)

  -- An id and its parent have one root.
  pub root_step : (x : ℕ) → root_of up (up x) ≡ root_of up x
  unfolding ancestor
  root_step x = sym (climb_enough x (up x) (F.down x)) ∙ climb_enough (suc x) x (omega arith)

  -- An id that is its own root is its own parent.
  pub root_own : (x : ℕ) → root_of up x ≡ x → up x ≡ x
  root_own x h = ap up (sym h) ∙ root_parent x ∙ h

  -- What does not change from an id to its parent, and is the id itself at a root, is the root.
  pub root_unique : (g : ℕ → ℕ) → ((y : ℕ) → g (up y) ≡ g y) → ((y : ℕ) → up y ≡ y → g y ≡ y) → (x : ℕ) → root_of up x ≡ g x
  unfolding root_of
  root_unique g h top x = sym (top (ancestor up x x) (climb_ends x x (le_refl x))) ∙ climb_keeps up g h x x

-- ---- one parent changed

module _ (up vp : ℕ → ℕ) (F : Forest up) (x t : ℕ) (C : Changed up vp x t) where
  changed_forest : t ≤ x → Forest vp
  changed_forest l = record {
    down = λ y. ⊎_elim
        (λ (k : y ≡ x). rw (k, C.at) l)
        (λ (k : ¬ (y ≡ x)). rw (C.off y k) (F.down y))
        (same? y x);
  }

  -- x hung at t, another id of its tree that is not above it, or at itself where it is a root: no root changes.
  pub rehang : t ≤ x → root_of up t ≡ root_of up x → (t ≡ x → up x ≡ x) → Roots vp (root_of up)
  rehang l e top = record { forest = changed_forest l; roots = root_unique vp (changed_forest l) (root_of up) keeps ends }
    where
      keeps : (y : ℕ) → root_of up (vp y) ≡ root_of up y
      keeps y = ⊎_elim
          (λ (k : y ≡ x). rw (k, C.at) e)
          (λ (k : ¬ (y ≡ x)). rw (C.off y k) (root_step up F y))
          (same? y x)

      ends : (y : ℕ) → vp y ≡ y → root_of up y ≡ y
      ends y m = ⊎_elim
          (λ (k : y ≡ x). rw k (root_fixed up F x (top (sym C.at ∙ (rw k at m)))))
          (λ (k : ¬ (y ≡ x)). root_fixed up F y (sym (C.off y k) ∙ m))
          (same? y x)

  -- The root x hung at the smaller root t: x's class becomes t's.
  pub hang : t < x → up t ≡ t → up x ≡ x → Roots vp (λ y. merge_ids t x (root_of up y))
  hang l rt rx = record { forest = forest; roots = root_unique vp forest (λ y. merge_ids t x (root_of up y)) keeps ends }
    where
      forest : Forest vp
      forest = changed_forest (omega arith)

      keeps : (y : ℕ) → merge_ids t x (root_of up (vp y)) ≡ merge_ids t x (root_of up y)
      keeps y = ⊎_elim
          (λ (k : y ≡ x). rw (k, C.at, root_fixed up F t rt, root_fixed up F x rx) (merge_left t x ∙ sym (merge_right t x)))
          (λ (k : ¬ (y ≡ x)). rw (C.off y k, root_step up F y))
          (same? y x)

      ends : (y : ℕ) → vp y ≡ y → merge_ids t x (root_of up y) ≡ y
      ends y m = ⊎_elim
          (λ (k : y ≡ x). absurd (omega (arith, rw (k, C.at) at m)))
          (λ (k : ¬ (y ≡ x)). rw (root_fixed up F y (sym (C.off y k) ∙ m)) (merge_miss t x y (omega arith)))
          (same? y x)

-- ---- a union: the roots p of a and q of b, the larger hung at the smaller

module _ (up vp : ℕ → ℕ) (F : Forest up) (a b : ℕ) where
  -- `min` and `max` of the roots, by cases
  pub hung_right : Changed up vp (root_of up b) (root_of up a) → root_of up a < root_of up b → Roots vp (join_classes (root_of up) a b)
  unfolding join_classes
  hung_right C l = hang up vp F (root_of up b) (root_of up a) C l (root_parent up F a) (root_parent up F b)

  pub hung_left : Changed up vp (root_of up a) (root_of up b) → root_of up b < root_of up a → Roots vp (join_classes (root_of up) a b)
  unfolding join_classes
  hung_left C l =
      let r = hang up vp F (root_of up a) (root_of up b) C l (root_parent up F b) (root_parent up F a) in
      record { forest = r.forest; roots = λ y. r.roots y ∙ merge_comm (root_of up b) (root_of up a) (root_of up y) }

module _ (up : ℕ → ℕ) (F : Forest up) (a b : ℕ) where
  pub one_already : root_of up a ≡ root_of up b → Roots up (join_classes (root_of up) a b)
  unfolding join_classes
  one_already e = record { forest = F; roots = λ y. rw e (sym (merge_self (root_of up b) (root_of up y))) }

-- ---- `Roots`

-- `join_classes` goes by the values of the function.
pub join_ext : (f g : ℕ → ℕ) → ((y : ℕ) → f y ≡ g y) → (a b y : ℕ) → join_classes f a b y ≡ join_classes g a b y
unfolding join_classes
join_ext f g h a b y = rw (h a, h b, h y)

pub joins_ext : (es : List Edge) (f g : ℕ → ℕ) → ((y : ℕ) → f y ≡ g y) → (y : ℕ) → joins f es y ≡ joins g es y
unfolding joins
joins_ext [] f g h y = h y
joins_ext (e ∷ es) f g h y = joins_ext es (join_classes f e.from e.to) (join_classes g e.from e.to) (join_ext f g h e.from e.to) y
