-- Union-find over a table of links. A link is a distance back: the parent of id x is x less its entry, and never below 0.
-- So every content of a table is a forest: no id is joined to a later one, and every walk to a root ends. A link longer than its place leads to none.
-- Assumes nothing.
use Rattle.std.specs.Prelude.{ℕ, zero, suc, ◌+◌, ◌-◌, Bool, true, cond, ◌&&◌, ◌||◌, List, Option, Some, None, ◌≡◌, eqb, leb, ltb, length, get_or}
use Rattle.lists.specs.Lists.{consecutive, all_of}
use Rattle.closure.specs.Joined.{join_classes}
use Rattle.closure.specs.Trees.{root_of}

-- The parent of x. An id past the end is its own.
unfoldable pub parent : List ℕ → ℕ → ℕ
parent ls x = x - get_or ls x 0

-- The root of x.
unfoldable pub root : List ℕ → ℕ → ℕ
root ls x = root_of (parent ls) x

-- The link of x is no longer than its place: x is joined to itself or to an id before it, and not to none. An id past the end has no link.
unfoldable pub sound_at : List ℕ → ℕ → Bool
sound_at ls x = leb (get_or ls x 0) x

-- .. and so are the n next ones on the way from x.
unfoldable pub sound_way : List ℕ → ℕ → ℕ → Bool
sound_way ls zero x = sound_at ls x
sound_way ls (suc n) x = sound_at ls x && sound_way ls n (parent ls x)

-- Every link on the way from x to its root is so, the root's too: no way is longer than x.
unfoldable pub sound_from : List ℕ → ℕ → Bool
sound_from ls x = sound_way ls x x

-- The link of each id below n is so.
unfoldable pub sound_below : List ℕ → ℕ → Bool
sound_below ls n = all_of (sound_at ls) (consecutive 0 n)

-- Every link on the way from each of n ids, from `from` on, is so.
unfoldable pub sound_range : List ℕ → ℕ → ℕ → Bool
sound_range ls from n = all_of (sound_from ls) (consecutive from n)

-- The steps from x to its root, n at most.
unfoldable pub steps_within : List ℕ → ℕ → ℕ → ℕ
steps_within ls zero x = 0
steps_within ls (suc n) x = cond (eqb (parent ls x) x) 0 (suc (steps_within ls n (parent ls x)))

-- .. all of them: no way is longer than x.
unfoldable pub depth : List ℕ → ℕ → ℕ
depth ls x = steps_within ls x x

-- The steps from each of n ids, from `from` on, together.
unfoldable pub depths : List ℕ → ℕ → ℕ → ℕ
depths ls from zero = 0
depths ls from (suc n) = depth ls from + depths ls (suc from) n

-- What is looked at before n ids, from `from` on, are joined to others: every link on their ways; and where these have together more steps
-- than the table has entries, every link up to the last of the n ids. So no table makes the test longer than a few passes over it.
unfoldable pub sound_ways : List ℕ → ℕ → ℕ → Bool
sound_ways ls from n = sound_range ls from n && (leb (depths ls from n) (length ls) || sound_below ls (from + n))

-- The roots once a and b are in one class: the smaller of their two roots is the root of both. An id past the end stays alone.
unfoldable pub united : List ℕ → ℕ → ℕ → ℕ → ℕ
united ls a b x = cond (ltb a (length ls) && ltb b (length ls)) (join_classes (root ls) a b x) (root ls x)

-- ms has the length of ls, and the roots g, and a link that was no longer than its place is so still. Which links lead to these roots is left free.
pub record Rooted (ls ms : List ℕ) (g : ℕ → ℕ) : Type 0 where
  pub size : length ms ≡ length ls
  pub roots : (x : ℕ) → root ms x ≡ g x
  pub sound : (x : ℕ) → sound_at ls x ≡ true → sound_at ms x ≡ true

-- How many steps the way from x has, if every link on it is so.
unfoldable pub way : List ℕ → ℕ → Option ℕ
way ls x = cond (sound_from ls x) (Some (depth ls x)) None

-- What `find_halving` leaves: it answers the root of x, and no id's root has changed.
pub record Found (ls ms : List ℕ) (x r : ℕ) : Type 0 where
  pub is : r ≡ root ls x
  pub kept : Rooted ls ms (root ls)
