-- Tests that are the same at every entry.
-- Assumes nothing.
use mathlib.Core.Path.{◌≡◌, refl}
use mathlib.Core.Bool.{Bool}
use mathlib.Core.List.{List, [], ◌∷◌, Memᴰ}
use Prim.Native.Nat.{ℕ}
use Rattle.lists.specs.Lists.{all_of, some_of}

pub some_alike : (f g : ℕ → Bool) (l : List ℕ) → ((x : ℕ) → Memᴰ x l → f x ≡ g x) → some_of f l ≡ some_of g l
some_alike f g [] h = refl
some_alike f g (x ∷ l) h = rw (h x (Memᴰ.head refl), some_alike f g l (λ y m. h y (Memᴰ.tail m)))

pub all_alike : (f g : ℕ → Bool) (l : List ℕ) → ((x : ℕ) → Memᴰ x l → f x ≡ g x) → all_of f l ≡ all_of g l
all_alike f g [] h = refl
all_alike f g (x ∷ l) h = rw (h x (Memᴰ.head refl), all_alike f g l (λ y m. h y (Memᴰ.tail m)))
