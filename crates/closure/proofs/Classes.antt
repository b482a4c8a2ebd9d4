-- The laws of `rep`: it gives of each id the least one on a path from it, so edge lists with the same paths have the same `rep`.
-- Assumes nothing.
use Prim.Native.Nat.{ℕ, ◌≤◌, min, max}
use native.Mathlib.Nat.{le_refl, le_trans, min_comm, max_comm}
use native.Mathlib.Omega.{arith}
use mathlib.Core.Bool.{Bool, true, false}
use mathlib.Core.Logic.{◌⊎◌, inl, inr, ⊎_elim}
use mathlib.Core.List.Memᴰ
use mathlib.Core.List.{List, [], ◌∷◌, ◌++◌, foldl, Memᴰ}
use mathlib.Core.Path.{◌≡◌, refl, sym, ap, ◌∙◌}
use lib.Dec.{eqb}
use borrow.Author.Tests.{eqb-true, eqb-false, eq-eqb, ne_eqb}
use Rattle.closure.specs.Joined.{Edge, Linked, stay, along, back, via, merge_ids, join_classes, joins, rep}

-- ---- `merge_ids`

pub merge_hit : (p q v : ℕ) → v ≡ max p q → merge_ids p q v ≡ min p q
unfolding merge_ids
merge_hit p q v h = rw (eq-eqb v (max p q) h)

pub merge_miss : (p q v : ℕ) → ¬ (v ≡ max p q) → merge_ids p q v ≡ v
unfolding merge_ids
merge_miss p q v h = rw (ne_eqb v (max p q) h)

-- Either v was the larger and is now the smaller, or it stays.
abbrev pub MergeCase : ℕ → ℕ → ℕ → Type 0
MergeCase p q v = ((v ≡ max p q) × (merge_ids p q v ≡ min p q)) ⊎ (¬ (v ≡ max p q) × (merge_ids p q v ≡ v))

pub merge_cases : (p q v : ℕ) → MergeCase p q v
merge_cases p q v = go (eqb v (max p q)) refl
  where
    go : (t : Bool) → eqb v (max p q) ≡ t → MergeCase p q v
    go true e = let h = eqb-true v (max p q) e in inl (h, merge_hit p q v h)
    go false e = let h = eqb-false v (max p q) e in inr (h, merge_miss p q v h)

pub merge_low : (p q v : ℕ) → merge_ids p q v ≤ v
merge_low p q v = ⊎_elim (λ h. omega arith) (λ h. omega arith) (merge_cases p q v)

-- The two that are joined become one.
pub merge_left : (p q : ℕ) → merge_ids p q p ≡ min p q
merge_left p q = ⊎_elim (λ h. omega arith) (λ h. omega arith) (merge_cases p q p)

pub merge_right : (p q : ℕ) → merge_ids p q q ≡ min p q
merge_right p q = ⊎_elim (λ h. omega arith) (λ h. omega arith) (merge_cases p q q)

-- Merging p and q does not move their smaller one.
pub merge_min : (p q : ℕ) → merge_ids p q (min p q) ≡ min p q
merge_min p q = ⊎_elim (λ h. omega arith) (λ h. omega arith) (merge_cases p q (min p q))

pub merge_comm : (p q v : ℕ) → merge_ids p q v ≡ merge_ids q p v
merge_comm p q v = ⊎_elim
    (λ (h : (v ≡ max p q) × (merge_ids p q v ≡ min p q)). h.1 ∙ min_comm p q ∙ sym (merge_hit q p v (h.0 ∙ max_comm p q)))
    (λ (h : ¬ (v ≡ max p q) × (merge_ids p q v ≡ v)). h.1 ∙ sym (merge_miss q p v (λ e. h.0 (e ∙ max_comm q p))))
    (merge_cases p q v)

pub merge_self : (p v : ℕ) → merge_ids p p v ≡ v
merge_self p v = ⊎_elim (λ h. omega arith) (λ h. omega arith) (merge_cases p p v)

-- ---- `join_classes`

-- A relation that is symmetric and transitive.
pub record Closed (Q : ℕ → ℕ → Type 0) : Type 0 where
  pub flip : {x y : ℕ} → Q x y → Q y x
  pub then : {x y z : ℕ} → Q x y → Q y z → Q x z

module _ (f : ℕ → ℕ) (a b : ℕ) where
  pub join_low : ((x : ℕ) → f x ≤ x) → (x : ℕ) → join_classes f a b x ≤ x
  unfolding join_classes
  join_low low x = le_trans (merge_low (f a) (f b) (f x)) (low x)

  pub join_mono : (x y : ℕ) → f x ≡ f y → join_classes f a b x ≡ join_classes f a b y
  unfolding join_classes
  join_mono x y e = ap (merge_ids (f a) (f b)) e

  pub join_edge : join_classes f a b a ≡ join_classes f a b b
  unfolding join_classes
  join_edge = merge_left (f a) (f b) ∙ sym (merge_right (f a) (f b))

  -- the smaller of two fixed ids is fixed
  fixed_min : ((x : ℕ) → f (f x) ≡ f x) → f (min (f a) (f b)) ≡ min (f a) (f b)
  fixed_min idem = ⊎_elim (λ e. rw e (idem a)) (λ e. rw e (idem b)) (which (f a) (f b))
    where
      which : (p q : ℕ) → (min p q ≡ p) ⊎ (min p q ≡ q)
      which p q = ⊎_elim (λ h. inr (omega arith)) (λ h. inl (omega arith)) (merge_cases p q p)

  pub join_idem : ((x : ℕ) → f (f x) ≡ f x) → (x : ℕ) → join_classes f a b (join_classes f a b x) ≡ join_classes f a b x
  unfolding join_classes
  join_idem idem x = ⊎_elim moved still (merge_cases (f a) (f b) (f x))
    where
      moved : (f x ≡ max (f a) (f b)) × (merge_ids (f a) (f b) (f x) ≡ min (f a) (f b)) → join_classes f a b (join_classes f a b x) ≡ join_classes f a b x
      moved h = rw h.1 (ap (merge_ids (f a) (f b)) (fixed_min idem) ∙ merge_min (f a) (f b))

      still : ¬ (f x ≡ max (f a) (f b)) × (merge_ids (f a) (f b) (f x) ≡ f x) → join_classes f a b (join_classes f a b x) ≡ join_classes f a b x
      still h = rw h.1 (ap (merge_ids (f a) (f b)) (idem x) ∙ h.1)

  -- Ids that `join_classes` makes one are related by any equivalence that has f's classes and the new edge.
  pub join_sound : (Q : ℕ → ℕ → Type 0) → Closed Q → ((x y : ℕ) → f x ≡ f y → Q x y) → Q a b → (x y : ℕ) → join_classes f a b x ≡ join_classes f a b y → Q x y
  unfolding join_classes
  join_sound Q q sound ab x y e = go (merge_cases (f a) (f b) (f x)) (merge_cases (f a) (f b) (f y))
    where
      -- z fell to the smaller, which is the root of w
      across : (z w : ℕ) → f z ≡ max (f a) (f b) → f w ≡ min (f a) (f b) → Q z w
      across z w h l = ⊎_elim
          (λ (k : (f b ≡ max (f a) (f b)) × (merge_ids (f a) (f b) (f b) ≡ min (f a) (f b))).
          q.then (sound z b (h ∙ sym k.0)) (q.then (q.flip ab) (sound a w (omega (arith, k.0, l)))))
          (λ (k : ¬ (f b ≡ max (f a) (f b)) × (merge_ids (f a) (f b) (f b) ≡ f b)).
          q.then (sound z a (omega (arith, k.0, h))) (q.then ab (sound b w (omega (arith, k.0, l)))))
          (merge_cases (f a) (f b) (f b))

      go : MergeCase (f a) (f b) (f x) → MergeCase (f a) (f b) (f y) → Q x y
      go (inl h) (inl k) = sound x y (omega (arith, h.0, k.0))
      go (inl h) (inr k) = across x y h.0 (omega (arith, h.1, k.1, e))
      go (inr h) (inl k) = q.flip (across y x k.0 (omega (arith, h.1, k.1, e)))
      go (inr h) (inr k) = sound x y (omega (arith, h.1, k.1, e))

-- ---- `joins`, from any start

pub joins_low : (es : List Edge) (f : ℕ → ℕ) → ((x : ℕ) → f x ≤ x) → (x : ℕ) → joins f es x ≤ x
unfolding joins
joins_low [] f low x = low x
joins_low (e ∷ es) f low x = joins_low es (join_classes f e.from e.to) (join_low f e.from e.to low) x

pub joins_idem : (es : List Edge) (f : ℕ → ℕ) → ((x : ℕ) → f (f x) ≡ f x) → (x : ℕ) → joins f es (joins f es x) ≡ joins f es x
unfolding joins
joins_idem [] f idem x = idem x
joins_idem (e ∷ es) f idem x = joins_idem es (join_classes f e.from e.to) (join_idem f e.from e.to idem) x

pub joins_mono : (es : List Edge) (f : ℕ → ℕ) (x y : ℕ) → f x ≡ f y → joins f es x ≡ joins f es y
unfolding joins
joins_mono [] f x y h = h
joins_mono (e ∷ es) f x y h = joins_mono es (join_classes f e.from e.to) x y (join_mono f e.from e.to x y h)

pub joins_edge : (es : List Edge) (f : ℕ → ℕ) {e : Edge} → Memᴰ e es → joins f es e.from ≡ joins f es e.to
unfolding joins
joins_edge [] f i = absurd (Memᴰ.not-nil i)
joins_edge (d ∷ es) f {e} i = go (Memᴰ.cases_cons i) (λ k. joins_edge es (join_classes f d.from d.to) k)
  where
    go : (e ≡ d) ⊎ Memᴰ e es → (Memᴰ e es → joins (join_classes f d.from d.to) es e.from ≡ joins (join_classes f d.from d.to) es e.to)
        → joins f (d ∷ es) e.from ≡ joins f (d ∷ es) e.to
    go (inl h) ih = rw h (joins_mono es (join_classes f d.from d.to) d.from d.to (join_edge f d.from d.to))
    go (inr k) ih = ih k

pub joins_sound : (Q : ℕ → ℕ → Type 0) → Closed Q → (es : List Edge) → ((e : Edge) → Memᴰ e es → Q e.from e.to)
    → (f : ℕ → ℕ) → ((x y : ℕ) → f x ≡ f y → Q x y) → (x y : ℕ) → joins f es x ≡ joins f es y → Q x y
unfolding joins
joins_sound Q q [] edges f sound x y h = sound x y h
joins_sound Q q (e ∷ es) edges f sound x y h =
    joins_sound Q q es (λ d i. edges d (Memᴰ.tail i)) (join_classes f e.from e.to) (join_sound f e.from e.to Q q sound (edges e (Memᴰ.head refl))) x y h

-- `joins` is the fold that its name says.
pub joins_foldl : (es : List Edge) (f : ℕ → ℕ) (x : ℕ) → joins f es x ≡ foldl (λ g e. join_classes g e.from e.to) f es x
unfolding joins
joins_foldl [] f x = refl
joins_foldl (e ∷ es) f x = joins_foldl es (join_classes f e.from e.to) x

pub joins_append : (es ds : List Edge) (f : ℕ → ℕ) (x : ℕ) → joins f (es ++ ds) x ≡ joins (joins f es) ds x
unfolding joins
joins_append [] ds f x = refl
joins_append (e ∷ es) ds f x = joins_append es ds (join_classes f e.from e.to) x

-- ---- `rep`

pub rep_low : (es : List Edge) (x : ℕ) → rep es x ≤ x
unfolding rep
rep_low es x = joins_low es (λ y. y) le_refl x

pub rep_idem : (es : List Edge) (x : ℕ) → rep es (rep es x) ≡ rep es x
unfolding rep
rep_idem es x = joins_idem es (λ y. y) (λ y. refl) x

pub rep_path : (es : List Edge) {x y : ℕ} → Linked es x y → rep es x ≡ rep es y
unfolding rep
rep_path es stay = refl
rep_path es (along i) = joins_edge es (λ y. y) i
rep_path es (back p) = sym (rep_path es p)
rep_path es (via p q) = rep_path es p ∙ rep_path es q

pub path_closed : (es : List Edge) → Closed (Linked es)
path_closed es = record { flip = back; then = via }

pub path_rep : (es : List Edge) (x y : ℕ) → rep es x ≡ rep es y → Linked es x y
unfolding rep
path_rep es x y e = joins_sound (Linked es) (path_closed es) es (λ e i. along i) (λ z. z) (λ z w h. rw h stay) x y e

pub path_to_rep : (es : List Edge) (x : ℕ) → Linked es x (rep es x)
path_to_rep es x = path_rep es x (rep es x) (sym (rep_idem es x))

-- A path follows from its edges, so one list's paths are the other's where each edge of the first has a path in the other.
pub path_map : (es ds : List Edge) → ((e : Edge) → Memᴰ e es → Linked ds e.from e.to) → {x y : ℕ} → Linked es x y → Linked ds x y
path_map es ds h stay = stay
path_map es ds h (along {e = e} i) = h e i
path_map es ds h (back p) = back (path_map es ds h p)
path_map es ds h (via p q) = via (path_map es ds h p) (path_map es ds h q)
