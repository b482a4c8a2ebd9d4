-- Lists made of the lists that a function gives for each entry.
-- Assumes nothing.
use mathlib.Core.List.Memᴰ
use mathlib.Core.List.{List, [], ◌∷◌, ◌++◌, flat_map, append_assoc, Memᴰ}
use mathlib.Core.Logic.{◌⊎◌, inl, inr}
use mathlib.Core.Path.{◌≡◌, refl, sym, subst}

module _ {A B : Type 0} (f : A → List B) where
  pub flat_append : (xs ys : List A) → flat_map f (xs ++ ys) ≡ flat_map f xs ++ flat_map f ys
  unfolding flat_map
  flat_append [] ys = refl
  flat_append (x ∷ xs) ys = rw (flat_append xs ys) (sym (append_assoc (f x) (flat_map f xs) (flat_map f ys)))

  pub flat_in : (xs : List A) {x : A} {d : B} → Memᴰ x xs → Memᴰ d (f x) → Memᴰ d (flat_map f xs)
  unfolding flat_map
  flat_in [] i j = absurd (Memᴰ.not-nil i)
  flat_in (w ∷ xs) {x} {d} i j = go (Memᴰ.cases_cons i) (λ k. flat_in xs k j)
    where
      go : (x ≡ w) ⊎ Memᴰ x xs → (Memᴰ x xs → Memᴰ d (flat_map f xs)) → Memᴰ d (f w ++ flat_map f xs)
      go (inl q) ih = Memᴰ.append_left (flat_map f xs) (subst (λ (z : A). Memᴰ d (f z)) q j)
      go (inr k) ih = Memᴰ.append_right (f w) (ih k)

  pub flat_out : (xs : List A) {d : B} → Memᴰ d (flat_map f xs) → (x : A) × Memᴰ x xs × Memᴰ d (f x)
  unfolding flat_map
  flat_out [] i = absurd (Memᴰ.not-nil i)
  flat_out (w ∷ xs) {d} i = go (Memᴰ.append_cases (f w) i) (λ k. flat_out xs k)
    where
      go : Memᴰ d (f w) ⊎ Memᴰ d (flat_map f xs) → (Memᴰ d (flat_map f xs) → (x : A) × Memᴰ x xs × Memᴰ d (f x)) → (x : A) × Memᴰ x (w ∷ xs) × Memᴰ d (f x)
      go (inl k) ih = (w, Memᴰ.head refl, k)
      go (inr k) ih = let z = ih k in (z.0, Memᴰ.tail z.1, z.2)
