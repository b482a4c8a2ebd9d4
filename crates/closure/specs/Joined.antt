-- Ids joined by edges: the closure of the edges as a relation, `Path`, and the least id of each class as a function, `rep`.
use Rattle.std.specs.Prelude.{ℕ, min, max, cond, eqb}
use mathlib.Core.List.{List, [], ◌∷◌, Memᴰ}

-- An edge between two ids.
pub record Edge : Type 0 where
  pub from : ℕ
  pub to : ℕ

abbrev pub edge : ℕ → ℕ → Edge
edge x y = record { from = x; to = y }

-- The reflexive, symmetric and transitive closure of the edges.
pub data Linked (es : List Edge) : ℕ → ℕ → Type 0 where
  stay : {x : ℕ} → Linked es x x
  along : {e : Edge} → Memᴰ e es → Linked es e.from e.to
  back : {x y : ℕ} → Linked es x y → Linked es y x
  via : {x y z : ℕ} → Linked es x y → Linked es y z → Linked es x z

-- The larger of p and q becomes the smaller; every other id stays.
unfoldable pub merge_ids : ℕ → ℕ → ℕ → ℕ
merge_ids p q v = cond (eqb v (max p q)) (min p q) v

-- The classes of f, with those of a and b made one.
unfoldable pub join_classes : (ℕ → ℕ) → ℕ → ℕ → ℕ → ℕ
join_classes f a b x = merge_ids (f a) (f b) (f x)

-- f with every edge of the list joined, in the order of the list.
unfoldable pub joins : (ℕ → ℕ) → List Edge → ℕ → ℕ
joins f [] x = f x
joins f (e ∷ es) x = joins (join_classes f e.from e.to) es x

-- The least id of the class of x, where the list's edges are joined.
unfoldable pub rep : List Edge → ℕ → ℕ
rep es x = joins (λ y. y) es x
