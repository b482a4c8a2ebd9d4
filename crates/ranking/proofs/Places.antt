-- The entries of a list by their places, tables that are written from a place on, and parts of tables.
-- Assumes nothing.
use mathlib.Core.Path.{◌≡◌, sym, ap, ◌∙◌}
use mathlib.Core.Logic.{◌⊎◌, inl, inr}
use mathlib.Core.List.Memᴰ
use mathlib.Core.List.{List, [], ◌∷◌, ◌++◌, Memᴰ}
use Prim.Native.Nat.{ℕ, suc, ◌+◌, ◌-◌, ◌≤◌, ◌<◌}
use native.Mathlib.Omega.{arith}
use lib.ListN.{get_or, length, take, drop, length-drop}
use lib.Seq.{ext_get_or, get_or-take, get_or-drop, length-take-le, take_at, drop_at}
use Rattle.lists.specs.Lists.{overlay}
use Rattle.lists.proofs.Overlay.{length-overlay, overlay_at}
use Rattle.ranking.specs.Ranking.{part}

-- ---- places in a list

-- An entry has a place.
pub place_in : (l : List ℕ) {x : ℕ} → Memᴰ x l → (k : ℕ) × (k < length l) × (get_or l k 0 ≡ x)
place_in [] m = absurd (Memᴰ.not-nil m)
place_in (y ∷ l) {x} m = go (Memᴰ.cases_cons m) (λ n. place_in l n)
  where
    go : (x ≡ y) ⊎ Memᴰ x l → (Memᴰ x l → (k : ℕ) × (k < length l) × (get_or l k 0 ≡ x)) → (k : ℕ) × (k < suc (length l)) × (get_or (y ∷ l) k 0 ≡ x)
    go (inl e) ih = (0, omega arith, sym e)
    go (inr n) ih = let r = ih n in (suc r.0, omega (arith, r.1), r.2)

-- ---- a part of a table

pub length_part : (xs : List ℕ) (from n : ℕ) → from + n ≤ length xs → length (part xs from n) ≡ n
unfolding part
length_part xs from n h = length-take-le n (drop from xs) (omega (arith, length-drop from xs))

pub part_at : (xs : List ℕ) (from n i : ℕ) → i < n → get_or (part xs from n) i 0 ≡ get_or xs (from + i) 0
unfolding part
part_at xs from n i h = get_or-take n (drop from xs) i 0 h ∙ get_or-drop from xs i 0

-- A list written over the part.
pub part_written : (xs l ys : List ℕ) (from n : ℕ) → n ≡ length l → from + n ≤ length xs → ys ≡ overlay xs from (λ i. get_or l i 0) n → part ys from n ≡ l
part_written xs l ys from n q h e =
    let k : length ys ≡ length xs = ap length e ∙ length-overlay xs from (λ i. get_or l i 0) n in
    let m : length (part ys from n) ≡ n = length_part ys from n (omega arith) in
    ext_get_or 0 (part ys from n) l (m ∙ q)
    (λ i o. let b : i < n = omega arith in
    part_at ys from n i b ∙ ap (λ (r : List ℕ). get_or r (from + i) 0) e ∙ overlay_at xs from (λ i. get_or l i 0) n i b h)

-- The part that is lent.
pub part_lent : (xs : List ℕ) (n h : ℕ) → take (n + h - n) (drop n xs) ≡ part xs n h
unfolding part
part_lent xs n h = let e : n + h - n ≡ h = omega arith in rw e

-- .. and given back.
pub part_back : (xs ys : List ℕ) (n h k : ℕ) → n ≤ length xs → length ys ≡ h → part (take n xs ++ (ys ++ drop k (drop n xs))) n h ≡ ys
unfolding part
part_back xs ys n h k l e =
    ap (take h) (drop_at (take n xs) (ys ++ drop k (drop n xs)) n (length-take-le n xs l)) ∙ take_at ys (drop k (drop n xs)) h e
