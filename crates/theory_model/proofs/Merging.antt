-- Links whose roots are those of a list of joined edges.
-- Assumes nothing.
use mathlib.Core.Bool.{true}
use mathlib.Core.List.{List, [], ◌∷◌, Memᴰ}
use mathlib.Core.Path.{◌∙◌, ◌≡◌, ap, refl, sym}
use Prim.Native.Nat.{ℕ, ◌-◌, ◌<◌, ◌≤◌}
use native.Mathlib.Omega.{arith}
use lib.Dec.{ltb}
use lib.ListN.{length, get_or-eq_default}
use borrow.Author.Tests.{ltb-false, ltb-true}
use Rattle.closure.specs.Joined.{Edge, edge, join_classes, joins}
use Rattle.union_find.specs.Links.{parent, root, sound_at, Rooted}
use Rattle.joiner.specs.Outcomes.{Merged, Together, back, joined, same, via}
use Rattle.lists.proofs.Cases.{by_test}
use Rattle.lists.proofs.Lists.{get_or_tabulate, length-tabulate}
use Rattle.closure.proofs.Classes.{Closed, join_low, joins_edge, joins_idem, joins_low, joins_mono, joins_sound, merge_miss}
use Rattle.closure.proofs.Rooted.{root_unique}
use Rattle.union_find.proofs.LinkLaws.{links_forest, root_idem, root_low, root_past}
use Rattle.union_find.proofs.SoundLaws.{sound_at_lem, at_past}
use Rattle.theory_model.specs.Model.{relinked}

together_closed : (f : ℕ → ℕ) (R : ℕ → ℕ → Type 0) → Closed (Together f R)
together_closed f R = record { flip = back; then = via }

-- What R relates the edges join, and an edge joins what R and the old roots make one.
pub joins_merged_by : (before now : List ℕ) (es : List Edge) (R : ℕ → ℕ → Type 0) → Rooted before now (joins (root before) es)
    → ((x y : ℕ) → R x y → joins (root before) es x ≡ joins (root before) es y)
    → ((e : Edge) → Memᴰ e es → Together (root before) R e.from e.to) → Merged before now R
joins_merged_by before now es R J there back_again = record {
  size = J.size;
  one = λ x y. (
    (λ e. joins_sound (Together (root before) R) (together_closed (root before) R) es back_again (root before) (λ u v h. same h) x y (sym (J.roots x) ∙ e ∙ J.roots y)),
    (λ l. J.roots x ∙ keeps l ∙ sym (J.roots y)),
  );
  sound = J.sound;
}
  where
    keeps : {x y : ℕ} → Together (root before) R x y → joins (root before) es x ≡ joins (root before) es y
    keeps (same {x = x} {y = y} e) = joins_mono es (root before) x y e
    keeps (joined {x = x} {y = y} r) = there x y r
    keeps (back l) = sym (keeps l)
    keeps (via l m) = keeps l ∙ keeps m

-- The same where R has exactly the edges.
pub joins_merged : (before now : List ℕ) (es : List Edge) (R : ℕ → ℕ → Type 0) → Rooted before now (joins (root before) es)
    → ((x y : ℕ) → R x y → Memᴰ (edge x y) es) → ((e : Edge) → Memᴰ e es → R e.from e.to) → Merged before now R
joins_merged before now es R J there back_again =
    joins_merged_by before now es R J (λ x y r. joins_edge es (root before) (there x y r)) (λ e m. joined (back_again e m))

-- ---- relinked

-- Both ends of each edge are places of the table.
abbrev pub Within : List ℕ → List Edge → Type 0
Within ls es = (e : Edge) → Memᴰ e es → (e.from < length ls) × (e.to < length ls)

-- An id behind the table stays alone.
join_past : (f : ℕ → ℕ) (a b n x : ℕ) → ((y : ℕ) → f y ≤ y) → f x ≡ x → n ≤ x → a < n → b < n → join_classes f a b x ≡ x
unfolding join_classes
join_past f a b n x low e h ha hb = merge_miss (f a) (f b) (f x) (λ q. absurd (omega (arith, low a, low b))) ∙ e

joins_past : (es : List Edge) (f : ℕ → ℕ) (n x : ℕ) → ((y : ℕ) → f y ≤ y) → f x ≡ x → n ≤ x → ((e : Edge) → Memᴰ e es → (e.from < n) × (e.to < n))
    → joins f es x ≡ x
unfolding joins
joins_past [] f n x low e h w = e
joins_past (d ∷ es) f n x low e h w =
    let i = w d (Memᴰ.head refl) in
    joins_past es (join_classes f d.from d.to) n x (join_low f d.from d.to low) (join_past f d.from d.to n x low e h i.0 i.1) h
    (λ c m. w c (Memᴰ.tail m))

module _ (ls : List ℕ) (es : List Edge) (inside : Within ls es) where
  -- each place is joined to its root
  relinked_parent : (x : ℕ) → parent (relinked ls es) x ≡ joins (root ls) es x
  unfolding parent relinked
  relinked_parent x =
      by_test (ltb x (length ls))
      (λ t.
      rw (get_or_tabulate (length ls) (λ y. y - joins (root ls) es y) x (ltb-true x (length ls) t)) (omega (arith, joins_low es (root ls) (root_low ls) x)))
      (λ t.
      let h : length ls ≤ x = ltb-false x (length ls) t in
      rw (get_or-eq_default (relinked ls es) 0 {n = x} (omega (arith, h, length-tabulate (length ls) (λ y. y - joins (root ls) es y))))
      (omega (arith, joins_past es (root ls) (length ls) x (root_low ls) (root_past ls x h) h inside)))

  pub relinked_roots : (x : ℕ) → root (relinked ls es) x ≡ joins (root ls) es x
  unfolding root
  relinked_roots x =
      root_unique (parent (relinked ls es)) (links_forest (relinked ls es)) (joins (root ls) es)
      (λ y. ap (joins (root ls) es) (relinked_parent y) ∙ joins_idem es (root ls) (root_idem ls) y)
      (λ y e. sym (relinked_parent y) ∙ e) x

  -- .. and its link is no longer than its place
  relinked_sound : (x : ℕ) → sound_at (relinked ls es) x ≡ true
  unfolding relinked
  relinked_sound x =
      by_test (ltb x (length ls))
      (λ t. sound_at_lem _ x (rw (get_or_tabulate (length ls) (λ y. y - joins (root ls) es y) x (ltb-true x (length ls) t)) (omega arith)))
      (λ t. at_past _ x (omega (arith, ltb-false x (length ls) t, length-tabulate (length ls) (λ y. y - joins (root ls) es y))))

  relinked_rooted : Rooted ls (relinked ls es) (joins (root ls) es)
  unfolding relinked
  relinked_rooted = record { size = length-tabulate (length ls) (λ y. y - joins (root ls) es y); roots = relinked_roots; sound = λ x e. relinked_sound x }

  pub relinked_merged : (R : ℕ → ℕ → Type 0) → ((x y : ℕ) → R x y → Memᴰ (edge x y) es) → ((e : Edge) → Memᴰ e es → R e.from e.to)
      → Merged ls (relinked ls es) R
  relinked_merged R there back_again =
      joins_merged ls (relinked ls es) es R relinked_rooted there back_again
