-- The ways of the scanner's functions, over plain lists and numbers.
-- Assumes nothing.
use mathlib.Core.Path.{◌≡◌, sym, ◌∙◌}
use mathlib.Core.Bool.{Bool, true, false, not, ◌&&◌, and-false}
use mathlib.Core.List.{List}
use Prim.Native.Nat.{ℕ, min, ◌+◌, ◌-◌, ◌*◌, ◌^◌, ◌≤◌, ◌<◌}
use native.Mathlib.Nat.{min-eq_left, min-eq_right}
use native.Mathlib.Numerals.{add-one}
use native.Mathlib.Omega.{arith}
use lib.Dec.{leb, ltb}
use lib.ListN.{length, get_or, drop, set, drop_of_length-le}
use lib.Seq.{drop-cons, set_out}
use borrow.Author.Tests.{lt-leb, le-leb, lt-ltb, le-ltb, eq-eqb, ne_eqb, ltb-true, ltb-false}
use Rattle.lists.proofs.Cases.{by_test}
use Rattle.decimals.specs.Decimals.{digit}
use Rattle.parser.specs.Scanning.{Seen, State, state, scanned, capped, spells, longer, counts, extent, kept_at, lost, stored, closed, step, after}

-- ---- one byte of a word

module _ (n v b : ℕ) where
  pub spells_low : b < 48 → 2 ^ 32 ≡ spells n v b
  unfolding spells digit
  spells_low h = rw (lt-leb 48 b h)

  pub spells_high : 57 < b → 2 ^ 32 ≡ spells n v b
  unfolding spells digit
  spells_high h = rw (lt-leb b 57 h, and-false (leb 48 b))

  pub spells_long : 10 ≤ n → 2 ^ 32 ≡ spells n v b
  unfolding spells
  spells_long l = rw (le-ltb n 10 l, and-false (digit b))

  pub spells_large : 2 ^ 32 ≤ v → 2 ^ 32 ≡ spells n v b
  unfolding spells
  spells_large k = rw (le-ltb v (2 ^ 32) k, and-false (ltb n 10), and-false (digit b))

  module _ (g : 48 ≤ b) (h : b ≤ 57) (l : n < 10) where
    pub spells_over : 2 ^ 32 ≤ 10 * v + (b - 48) → 2 ^ 32 ≡ spells n v b
    unfolding spells digit capped
    spells_over o =
        by_test (ltb v (2 ^ 32))
        (λ t. rw (le-leb 48 b g, le-leb b 57 h, lt-ltb n 10 l, t, le-ltb (10 * v + (b - 48)) (2 ^ 32) o))
        (λ t. rw (t, and-false (ltb n 10), and-false (leb 48 b && leb b 57)))

    pub spells_more : 10 * v + (b - 48) < 2 ^ 32 → 10 * v + (b - 48) ≡ spells n v b
    unfolding spells digit capped
    spells_more o =
        let k : v < 2 ^ 32 = omega arith in
        rw (le-leb 48 b g, le-leb b 57 h, lt-ltb n 10 l, lt-ltb v (2 ^ 32) k, lt-ltb (10 * v + (b - 48)) (2 ^ 32) o)

pub longer_is : (n : ℕ) → min n 9 + 1 ≡ longer n
unfolding longer
longer_is n =
    by_test (ltb n 10)
    (λ t. let h : n ≤ 9 = omega (arith, ltb-true n 10 t) in rw (t, min-eq_left h))
    (λ t. let h : 9 ≤ n = omega (arith, ltb-false n 10 t) in rw (t, min-eq_right h))

-- ---- a word that ends

-- A number counts after k others, of which x, y and z are the first three.
module _ (k : ℕ) (b : Bool) (n w x y z v : ℕ) (d : List ℕ) where
  abbrev with_number : State
  with_number = state (kept_at (scanned k b n w x y z) v) (stored k v d)

  pub kept_x : k ≡ 0 → state (scanned (k + 1) b n w v y z) d ≡ with_number
  unfolding extent stored
  kept_x h = rw h

  pub kept_y : k ≡ 1 → state (scanned (k + 1) b n w x v z) d ≡ with_number
  unfolding extent stored
  kept_y h = rw h

  pub kept_z : k ≡ 2 → state (scanned (k + 1) b n w x y v) d ≡ with_number
  unfolding extent stored
  kept_z h = rw h

  module _ (h : 3 ≤ k) where
    pub kept_code : state (scanned (k + 1) b n w x y z) (set d (k - 3) v) ≡ with_number
    unfolding extent stored
    kept_code = rw (ne_eqb k 0 (λ e. omega arith), ne_eqb k 1 (λ e. omega arith), ne_eqb k 2 (λ e. omega arith), le-ltb k 3 h)

    pub kept_out : length d ≤ k - 3 → state (scanned (k + 1) b n w x y z) d ≡ with_number
    kept_out o = rw (set_out d (k - 3) v o) at kept_code

-- The word that has ended is no longer there.
abbrev pub fresh : State → State
fresh t = state (scanned t.seen.count t.seen.broken 0 0 t.seen.nx t.seen.ny t.seen.nz) t.codes

pub closed_none : (s : Seen) (d : List ℕ) → s.size ≤ 0 → state s d ≡ closed s d
unfolding closed
closed_none s d h = rw (eq-eqb s.size 0 (omega arith))

module _ (s : Seen) (d : List ℕ) (n : 0 < s.size) where
  pub closed_counted : (v : ℕ) (t : State) → s.value ≡ v → v < 2 ^ 32 → s.broken ≡ false → s.count < 515 → t ≡ state (kept_at s v) (stored s.count v d) → fresh t ≡ closed s d
  unfolding closed counts
  closed_counted v t e h b k p = rw (ne_eqb s.size 0 (λ z. omega arith), p, b, e, lt-ltb v (2 ^ 32) h, lt-ltb s.count 515 k)

  closed_uncounted : counts s ≡ false → fresh (state (lost s) d) ≡ closed s d
  unfolding closed
  closed_uncounted c = rw (ne_eqb s.size 0 (λ z. omega arith), c)

  pub closed_broken : s.broken ≡ true → fresh (state (lost s) d) ≡ closed s d
  unfolding counts
  closed_broken b = closed_uncounted (rw b)

  pub closed_many : 515 ≤ s.count → fresh (state (lost s) d) ≡ closed s d
  unfolding counts
  closed_many h = closed_uncounted (rw (le-ltb s.count 515 h, and-false (ltb s.value (2 ^ 32)), and-false (not s.broken)))

  pub closed_other : s.value ≡ 2 ^ 32 → fresh (state (lost s) d) ≡ closed s d
  unfolding counts
  closed_other e = closed_uncounted (rw (e, and-false (not s.broken)))

-- ---- a chunk

-- The bytes from i on lead from the state that has been reached to the last.
pub after_more : (st : State) (s t : Seen) (d e bs : List ℕ) (i : ℕ) → i < length bs → st ≡ after (state s d) (drop i bs)
    → state t e ≡ step s d (get_or bs i 0) → st ≡ after (state t e) (drop (i + 1) bs)
unfolding after
after_more st s t d e bs i h p q = p ∙ rw (drop-cons bs i 0 h, add-one, q)

pub after_all : (st : State) (s : Seen) (d bs : List ℕ) (i : ℕ) → length bs ≤ i → st ≡ after (state s d) (drop i bs) → state s d ≡ st
unfolding after
after_all st s d bs i h p = sym (p ∙ rw (drop_of_length-le bs {i = i} h))
