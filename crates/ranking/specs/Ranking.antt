-- The components of one kind numbered by first position, over plain tables: what each pass leaves.
-- Assumes nothing.
use Rattle.std.specs.Prelude.{◌≡◌, Bool, cond, ◌&&◌, List, ℕ, zero, suc, ◌+◌, ◌≤◌, ◌<◌, eqb, ltb, get_or, length, set, take, drop}
use Rattle.lists.specs.Lists.{consecutive, keep, overlay}
use Rattle.union_find.specs.Links.{root}
use Rattle.sorting.specs.Sorting.{key_at, stable, StandsByRank}
use Rattle.joiner.specs.Job.{Kind, Tables}
use Rattle.joiner.specs.Outcomes.{class_of, heads, rank, head_of}

-- ---- the whole

-- What holds of each kind of all tables that have these keys and whose classes are those of the links.
abbrev pub AnyKind : List ℕ → List ℕ → (Tables → Kind → Type 0) → Type 0
AnyKind links keys P = (t : Tables) (κ : Kind) → t.keys κ ≡ keys → ((x : ℕ) → class_of t κ x ≡ root links x) → P t κ

-- The first n components numbered: how many first ones there are, all numbers, and the places of the first ones by number.
pub record Ranked (t : Tables) (κ : Kind) (n r : ℕ) (numbers numbers' leaders leaders' : List ℕ) : Type 0 where
  pub total : r ≡ length (heads t κ n)
  pub ranks : numbers' ≡ overlay numbers 0 (rank t κ n) n
  pub places : leaders' ≡ overlay leaders 0 (λ i. head_of t κ n (suc i)) r

-- ---- classes and their first ones

-- n places from `from` on.
unfoldable pub part : List ℕ → ℕ → ℕ → List ℕ
part xs from n = take n (drop from xs)

-- The first one of class c among the first n places: by key, then by place.
unfoldable pub first_of : List ℕ → (ℕ → ℕ) → ℕ → ℕ → ℕ
first_of keys f c zero = c
first_of keys f c (suc n) =
    cond (eqb (f n) c && ltb (get_or keys n 0) (get_or keys (first_of keys f c n) 0)) n (first_of keys f c n)

-- The places that are the first ones of their classes, ascending.
unfoldable pub leaders_of : List ℕ → (ℕ → ℕ) → ℕ → List ℕ
leaders_of keys f n = keep (λ x. eqb (first_of keys f (f x) n) x) (consecutive 0 n)

-- A table of classes. A class is named by one of its places, which comes no later than the others.
pub record Classes (cs : List ℕ) (n : ℕ) : Type 0 where
  pub long : n ≤ length cs
  pub low : (x : ℕ) → x < n → get_or cs x 0 ≤ x
  pub own : (x : ℕ) → x < n → get_or cs (get_or cs x 0) 0 ≡ get_or cs x 0

-- What x, of class c, makes of the table of first ones.
unfoldable pub entered : List ℕ → ℕ → ℕ → List ℕ → List ℕ
entered keys c x fs = cond (eqb c x) (set fs x x) (cond (ltb (get_or keys x 0) (get_or keys (get_or fs c 0) 0)) (set fs c x) fs)

-- At each class stands its leader among n places: its first one. What stands elsewhere is free.
pub record Leaders (keys cs : List ℕ) (n : ℕ) (fs : List ℕ) : Type 0 where
  pub at : (c : ℕ) → c < n → get_or cs c 0 ≡ c → get_or fs c 0 ≡ first_of keys (λ x. get_or cs x 0) c n

-- x is the leader of its class in the table.
unfoldable pub is_leader : List ℕ → List ℕ → ℕ → Bool
is_leader cs fs x = eqb (get_or fs (get_or cs x 0) 0) x

-- The leaders below x, ascending.
unfoldable pub leaders_below : List ℕ → List ℕ → ℕ → List ℕ
leaders_below cs fs x = keep (is_leader cs fs) (consecutive 0 x)

-- They are listed from place n on.
pub record LeadersListed (cs : List ℕ) (n x r : ℕ) (fs fs' : List ℕ) : Type 0 where
  pub total : r ≡ length (leaders_below cs fs x)
  pub listed : fs' ≡ overlay fs n (λ i. get_or (leaders_below cs fs x) i 0) r

-- The classes of the links, and their first ones from place n on.
pub record Found (links keys : List ℕ) (n r : ℕ) (numbers numbers' spare spare' : List ℕ) : Type 0 where
  pub classes : numbers' ≡ overlay numbers 0 (root links) n
  pub total : r ≡ length (leaders_of keys (root links) n)
  pub few : r ≤ n
  pub listed : part spare' n r ≡ leaders_of keys (root links) n
  pub long : length spare' ≡ length spare

-- ---- numbers

-- The places listed from place n on, sorted by key.
pub record Ordered (links keys : List ℕ) (n h : ℕ) (numbers numbers' spare spare' : List ℕ) : Type 0 where
  pub classes : numbers' ≡ overlay numbers 0 (root links) n
  pub sorted : StandsByRank (part spare n h) (part spare' n h) (stable (key_at keys (part spare n h)) h)
  pub long : length spare' ≡ length spare

-- What numbering takes: h places below n listed from place n on, of different classes.
pub record Different (cs spare : List ℕ) (n h : ℕ) : Type 0 where
  pub within : (i : ℕ) → i < h → get_or spare (n + i) 0 < n
  pub apart : (i j : ℕ) → i < h → j < h → get_or cs (get_or spare (n + i) 0) 0 ≡ get_or cs (get_or spare (n + j) 0) 0 → i ≡ j

-- Their classes have the numbers 1, 2, 3 in the order of the list.
pub record Placed (cs spare spare' : List ℕ) (n h : ℕ) : Type 0 where
  pub long : length spare' ≡ length spare
  pub at : (i : ℕ) → i < h → get_or spare' (get_or cs (get_or spare (n + i) 0) 0) 0 ≡ suc i
