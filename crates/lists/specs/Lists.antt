-- Consecutive numbers, tables of a function's values, the entries that pass a test, zeros, and what is written over a list.
-- Assumes nothing.
use Rattle.std.specs.Prelude.{Bool, true, false, cond, not, ◌&&◌, ◌||◌, List, [], ◌∷◌, ◌++◌, map, ℕ, zero, suc, ◌+◌, eqb, length, replicate, set, take, drop}

-- n numbers from i on.
unfoldable pub consecutive : ℕ → ℕ → List ℕ
consecutive i zero = []
consecutive i (suc n) = i ∷ consecutive (suc i) n

-- The values of f at the first n numbers.
unfoldable pub tabulate : ℕ → (ℕ → ℕ) → List ℕ
tabulate n f = map f (consecutive 0 n)

-- The entries that pass a test.
abbrev pub keep {ℓ} : {A : Type ℓ} → (A → Bool) → List A → List A
keep f [] = []
keep f (x ∷ xs) = cond (f x) (x ∷ keep f xs) (keep f xs)

-- n zeros.
unfoldable pub zeros : ℕ → List ℕ
zeros n = replicate n 0

-- All entries pass a test, or some.
abbrev pub all_of {ℓ} : {A : Type ℓ} → (A → Bool) → List A → Bool
all_of f [] = true
all_of f (x ∷ xs) = f x && all_of f xs

abbrev pub some_of {ℓ} : {A : Type ℓ} → (A → Bool) → List A → Bool
some_of f [] = false
some_of f (x ∷ xs) = f x || some_of f xs

-- The entries but 0.
abbrev pub nonzero : List ℕ → List ℕ
nonzero xs = keep (λ x. not (eqb x 0)) xs

-- x is an entry.
unfoldable pub is_in : List ℕ → ℕ → Bool
is_in xs x = some_of (λ y. eqb y x) xs

-- xs with n places from `from` on written: f i at from + i.
unfoldable pub overlay : {A : Type 0} → List A → ℕ → (ℕ → A) → ℕ → List A
overlay xs from f zero = xs
overlay xs from f (suc n) = set (overlay xs from f n) (from + n) (f n)

-- A list bs laid over xs from place p on; the other entries stay.
unfoldable pub laid : ℕ → List ℕ → List ℕ → List ℕ
laid p bs xs = take p xs ++ bs ++ drop (p + length bs) xs
