-- The laws of sound links, those that are no longer than their place: one step of a way, a whole way, and tables where every link is sound.
-- Assumes nothing.
use Prim.Native.Nat.{ℕ, zero, suc, ◌+◌, ◌-◌, ◌≤◌, ◌<◌}
use native.Mathlib.Decide.{le_ind}
use native.Mathlib.Omega.{arith}
use mathlib.Core.Bool.{Bool, true, false, true≢false, ◌&&◌}
use mathlib.Core.Logic.{◌⊎◌, ⊎_elim}
use mathlib.Core.List.{List}
use mathlib.Core.Path.{◌≡◌, refl, sym, ap, ◌∙◌}
use lib.ListN.{length, get_or, get_or-eq_default}
use Rattle.std.proofs.lemmas.Bool.{cases_lt}
use lib.Dec.{leb}
use Rattle.std.proofs.Common.{Some, None}
use Rattle.std.proofs.lemmas.Option.{cond_some, none-some}
use borrow.Author.Tests.{leb-true, le-leb, lt-leb, eq-eqb, ne_eqb}
use Rattle.lists.specs.Lists.{consecutive, all_of, zeros}
use Rattle.lists.proofs.Cases.{by_test, and_first, and_second, and_both, or_on_right}
use Rattle.lists.proofs.Lists.{consecutive_in, consecutive_out, zeros_at}
use Rattle.lists.proofs.Tests.{all_in, all_out, test_none, test_passed}
use Rattle.closure.specs.Trees.{ancestor}
use Rattle.closure.proofs.Rooted.{same?}
use Rattle.union_find.specs.Links.{parent, root, sound_at, sound_way, sound_from, sound_below, sound_range, steps_within, depth, depths, sound_ways, way}
use Rattle.union_find.proofs.LinkLaws.{parent_low, own_root}

-- ---- one link

and_twice : (t : Bool) → (t && t) ≡ t
and_twice true = refl
and_twice false = refl

and_none : (t : Bool) → (t && false) ≡ false
and_none true = refl
and_none false = refl

module _ (ls : List ℕ) (x : ℕ) where
  pub sound_at_lem : get_or ls x 0 ≤ x → sound_at ls x ≡ true
  unfolding sound_at
  sound_at_lem h = le-leb _ _ h

  pub at_sound : sound_at ls x ≡ true → get_or ls x 0 ≤ x
  unfolding sound_at
  at_sound e = leb-true _ _ e

  pub stray_at : x < get_or ls x 0 → sound_at ls x ≡ false
  unfolding sound_at
  stray_at h = lt-leb _ _ h

  -- An id past the end has no link.
  pub at_past : length ls ≤ x → sound_at ls x ≡ true
  at_past h = sound_at_lem (rw (get_or-eq_default ls 0 h) (omega arith))

  -- A sound link is not cut short: the parent stands just so far back.
  pub whole_link : sound_at ls x ≡ true → parent ls x + get_or ls x 0 ≡ x
  unfolding parent
  whole_link e = omega (arith, at_sound e)

  -- .. and one that is not cut short is sound.
  pub link_whole : parent ls x + get_or ls x 0 ≡ x → sound_at ls x ≡ true
  link_whole e = sound_at_lem (omega arith)

  -- A root whose link is sound has none.
  pub root_linkless : root ls x ≡ x → sound_at ls x ≡ true → get_or ls x 0 ≡ 0
  root_linkless r e = omega (arith, own_root ls x r, whole_link e)

-- In a table of zeros every link is sound.
pub zeros_sound : (n x : ℕ) → sound_at (zeros n) x ≡ true
zeros_sound n x = sound_at_lem (zeros n) x (rw (zeros_at n x) (omega arith))

-- ---- one step of a way

module _ (ls : List ℕ) where
  way_own : (n x : ℕ) → parent ls x ≡ x → sound_way ls n x ≡ sound_at ls x
  unfolding sound_way
  way_own zero x e = refl
  way_own (suc n) x e = rw (e, way_own n x e) (and_twice (sound_at ls x))

  way_more : (n x : ℕ) → x ≤ n → sound_way ls (suc n) x ≡ sound_way ls n x
  unfolding sound_way
  way_more zero x h = let e : parent ls x ≡ x = omega (arith, parent_low ls x) in way_own 1 x e ∙ sym (way_own 0 x e)
  way_more (suc n) x h = ⊎_elim
      (λ (e : parent ls x ≡ x). way_own (suc (suc n)) x e ∙ sym (way_own (suc n) x e))
      (λ (e : ¬ (parent ls x ≡ x)). ap (λ t. sound_at ls x && t) (way_more n (parent ls x) (omega (arith, parent_low ls x))))
      (same? (parent ls x) x)

  -- more steps than x come to the same
  way_enough : (n x : ℕ) → x ≤ n → sound_way ls n x ≡ sound_from ls x
  unfolding sound_from
  way_enough n x h = le_ind (λ (m : ℕ). sound_way ls m x ≡ sound_from ls x) refl (λ m k e. way_more m x k ∙ e) n h

  -- The way from x is its own link, and the way from its parent.
  pub sound_step : (x : ℕ) → sound_from ls x ≡ (sound_at ls x && sound_from ls (parent ls x))
  unfolding sound_way
  sound_step x = sym (way_enough (suc x) x (omega arith)) ∙ ap (λ t. sound_at ls x && t) (way_enough x (parent ls x) (parent_low ls x))

  -- A root's way is its own link.
  pub sound_own : (x : ℕ) → parent ls x ≡ x → sound_from ls x ≡ sound_at ls x
  unfolding sound_from
  sound_own x e = way_own x x e

  -- An id past the end is alone.
  pub sound_past : (x : ℕ) → length ls ≤ x → sound_from ls x ≡ true
  unfolding parent
  sound_past x h =
      let z = get_or-eq_default ls 0 h in
      sound_own x (rw z (omega arith)) ∙ sound_at_lem ls x (omega arith)

  -- ---- a whole way

  -- Each id on the way has a sound way.
  pub sound_climb : (k x : ℕ) → sound_from ls x ≡ true → sound_from ls (ancestor (parent ls) k x) ≡ true
  unfolding ancestor
  sound_climb zero x e = e
  sound_climb (suc k) x e = sound_climb k (parent ls x) (and_second (sound_at ls x) _ (sym (sound_step x) ∙ e))

  -- No link on a sound way is cut short ..
  pub way_whole : (k x : ℕ) → sound_from ls x ≡ true → parent ls (ancestor (parent ls) k x) + get_or ls (ancestor (parent ls) k x) 0 ≡ ancestor (parent ls) k x
  way_whole k x e =
      let y = ancestor (parent ls) k x in
      whole_link ls y (and_first (sound_at ls y) _ (sym (sound_step y) ∙ sound_climb k x e))

  -- .. and a way with no link cut short is sound.
  pub whole_way : (x : ℕ) → ((k : ℕ) → parent ls (ancestor (parent ls) k x) + get_or ls (ancestor (parent ls) k x) 0 ≡ ancestor (parent ls) k x) → sound_from ls x ≡ true
  unfolding sound_from sound_way ancestor
  whole_way x h = go x x h
    where
      go : (n y : ℕ) → ((k : ℕ) → parent ls (ancestor (parent ls) k y) + get_or ls (ancestor (parent ls) k y) 0 ≡ ancestor (parent ls) k y) → sound_way ls n y ≡ true
      go zero y g = link_whole ls y (g 0)
      go (suc n) y g = and_both (sound_at ls y) _ (link_whole ls y (g 0)) (go n (parent ls y) (λ k. g (suc k)))

-- ---- tables

module _ (ls : List ℕ) (n : ℕ) where
  pub below_at : sound_below ls n ≡ true → (x : ℕ) → x < n → sound_at ls x ≡ true
  unfolding sound_below
  below_at e x h = all_out (sound_at ls) (consecutive 0 n) e (consecutive_in 0 n (omega arith) (omega arith))

  pub at_below : ((x : ℕ) → x < n → sound_at ls x ≡ true) → sound_below ls n ≡ true
  unfolding sound_below
  at_below h = all_in (sound_at ls) (consecutive 0 n) (λ x m. h x (omega (arith, consecutive_out 0 n m)))

  -- Where every link below n is sound, so is every way from there.
  pub below_from : ((x : ℕ) → x < n → sound_at ls x ≡ true) → (x : ℕ) → x < n → sound_from ls x ≡ true
  unfolding sound_from sound_way
  below_from g x h = go x x h
    where
      go : (k y : ℕ) → y < n → sound_way ls k y ≡ true
      go zero y l = g y l
      go (suc k) y l = and_both (sound_at ls y) _ (g y l) (go k (parent ls y) (omega (arith, parent_low ls y)))

  pub below_range : ((x : ℕ) → x < n → sound_at ls x ≡ true) → (from count : ℕ) → from + count ≤ n → sound_range ls from count ≡ true
  unfolding sound_range
  below_range g from count h =
      all_in (sound_from ls) (consecutive from count) (λ x m. below_from g x (omega (arith, consecutive_out from count m)))

-- ---- how many steps a way has

module _ (ls : List ℕ) where
  within_own : (n x : ℕ) → parent ls x ≡ x → steps_within ls n x ≡ 0
  unfolding steps_within
  within_own zero x e = refl
  within_own (suc n) x e = rw (eq-eqb (parent ls x) x e)

  within_up : (n x : ℕ) → ¬ (parent ls x ≡ x) → steps_within ls (suc n) x ≡ suc (steps_within ls n (parent ls x))
  unfolding steps_within
  within_up n x e = rw (ne_eqb (parent ls x) x e)

  within_more : (n x : ℕ) → x ≤ n → steps_within ls (suc n) x ≡ steps_within ls n x
  within_more zero x h = let e : parent ls x ≡ x = omega (arith, parent_low ls x) in within_own 1 x e ∙ sym (within_own 0 x e)
  within_more (suc n) x h = ⊎_elim
      (λ (e : parent ls x ≡ x). within_own (suc (suc n)) x e ∙ sym (within_own (suc n) x e))
      (λ (e : ¬ (parent ls x ≡ x)). within_up (suc n) x e ∙ ap suc (within_more n (parent ls x) (omega (arith, parent_low ls x))) ∙ sym (within_up n x e))
      (same? (parent ls x) x)

  within_enough : (n x : ℕ) → x ≤ n → steps_within ls n x ≡ depth ls x
  unfolding depth
  within_enough n x h = le_ind (λ (m : ℕ). steps_within ls m x ≡ depth ls x) refl (λ m k e. within_more m x k ∙ e) n h

  within_low : (n x : ℕ) → steps_within ls n x ≤ n
  unfolding steps_within
  within_low zero x = omega arith
  within_low (suc n) x = ⊎_elim
      (λ (e : parent ls x ≡ x). omega (arith, within_own (suc n) x e))
      (λ (e : ¬ (parent ls x ≡ x)). omega (arith, within_up n x e, within_low n (parent ls x)))
      (same? (parent ls x) x)

  -- A root has none.
  pub depth_own : (x : ℕ) → parent ls x ≡ x → depth ls x ≡ 0
  unfolding depth
  depth_own x e = within_own x x e

  -- Any other has one more than its parent.
  pub depth_up : (x : ℕ) → ¬ (parent ls x ≡ x) → depth ls x ≡ suc (depth ls (parent ls x))
  depth_up x e = sym (within_enough (suc x) x (omega arith)) ∙ within_up x x e ∙ ap suc (within_enough x (parent ls x) (parent_low ls x))

  pub depth_low : (x : ℕ) → depth ls x ≤ x
  unfolding depth
  depth_low x = within_low x x

-- ---- the test of the code: the links of the first i ids are sound, and one more is, or is not, or no id below n is left that has one

module _ (ls : List ℕ) (n i : ℕ) where
  pub below_sound : ((x : ℕ) → x < i → sound_at ls x ≡ true) → get_or ls i 0 ≤ i → (x : ℕ) → x < i + 1 → sound_at ls x ≡ true
  below_sound h l x k = ⊎_elim (λ (e : x ≡ i). rw e (sound_at_lem ls i l)) (λ (e : ¬ (x ≡ i)). h x (omega arith)) (same? x i)

  pub below_stray : i < n → i < get_or ls i 0 → false ≡ sound_below ls n
  below_stray l h = by_test (sound_below ls n) (λ t. absurd (true≢false (sym (below_at ls n t i l) ∙ stray_at ls i h))) (λ t. sym t)

  pub below_past : ((x : ℕ) → x < i → sound_at ls x ≡ true) → (n ≤ i) ⊎ (length ls ≤ i) → true ≡ sound_below ls n
  below_past h e = sym (at_below ls n (λ x l. ⊎_elim (λ (k : n ≤ i). h x (omega arith))
      (λ (k : length ls ≤ i). ⊎_elim (λ (b : x < i). h x b) (λ (b : i ≤ x). at_past ls x (omega arith)) (cases_lt x i)) e))

-- ---- the walks of the code

module _ (ls : List ℕ) (x : ℕ) where
  pub way_some : (w : ℕ) → way ls x ≡ Some w → (sound_from ls x ≡ true) × (depth ls x ≡ w)
  unfolding way
  way_some w e = cond_some (sound_from ls x) (depth ls x) w e

  pub way_none : way ls x ≡ None → sound_from ls x ≡ false
  unfolding way
  way_none e = by_test (sound_from ls x) (λ t. absurd (none-some (depth ls x) (sym (rw t at e)))) (λ t. t)

  pub walk_past : length ls ≤ x → Some 0 ≡ way ls x
  unfolding parent way
  walk_past h = rw (sound_past ls x h, depth_own ls x (rw (get_or-eq_default ls 0 h) (omega arith)))

  -- One turn of a walk at y, k steps after x.
  module _ (y k : ℕ) (s : sound_from ls y ≡ sound_from ls x) (d : k + depth ls y ≡ depth ls x) where
    pub walk_stray : y < get_or ls y 0 → None ≡ way ls x
    unfolding way
    walk_stray h = rw (← s, sound_step ls y, stray_at ls y h)

    pub walk_root : get_or ls y 0 ≡ 0 → Some k ≡ way ls x
    unfolding parent way
    walk_root e =
        let o : parent ls y ≡ y = rw e (omega arith) in
        let n : depth ls x ≡ k = omega (arith, depth_own ls y o) in
        rw (← s, sound_own ls y o, sound_at_lem ls y (omega arith), n)

    module _ (h : get_or ls y 0 ≤ y) (n : get_or ls y 0 ≡ 0 → ⊥) where
      moves : ¬ (parent ls y ≡ y)
      unfolding parent
      moves e = n (omega arith)

      pub walk_sound : sound_from ls (y - get_or ls y 0) ≡ sound_from ls x
      unfolding parent
      walk_sound = sym (rw (sound_step ls y, sound_at_lem ls y h)) ∙ s

      pub walk_steps : (k + 1) + depth ls (y - get_or ls y 0) ≡ depth ls x
      unfolding parent
      walk_steps = omega (arith, depth_up ls y moves, d)

      pub walk_few : k < x
      walk_few = omega (arith, depth_up ls y moves, d, depth_low ls x)

-- ---- several ways

module _ (ls : List ℕ) where
  pub depths_next : (x k y j : ℕ) → k ≡ suc j → y ≡ suc x → depths ls x k ≡ depth ls x + depths ls y j
  unfolding depths
  depths_next x k y j e d = rw (e, d)

  pub depths_same : (x k y j : ℕ) → x ≡ y → k ≡ j → depths ls x k ≡ depths ls y j
  depths_same x k y j e d = rw (e, d)

  pub depths_none : (x k : ℕ) → k ≡ 0 → depths ls x k ≡ 0
  unfolding depths
  depths_none x k e = rw e

  -- Where every link below n is sound, ids there may be joined to others.
  pub below_ways : (n : ℕ) → ((x : ℕ) → x < n → sound_at ls x ≡ true) → (from count : ℕ) → from + count ≤ n → sound_ways ls from count ≡ true
  unfolding sound_ways
  below_ways n g from count h =
      and_both (sound_range ls from count) _ (below_range ls n g from count h)
      (or_on_right (leb (depths ls from count) (length ls)) _ (at_below ls (from + count) (λ x k. g x (omega arith))))

pub ways_stray : (ls : List ℕ) (from n : ℕ) → sound_range ls from n ≡ false → false ≡ sound_ways ls from n
unfolding sound_ways
ways_stray ls from n e = rw e

-- What a walk over the ways of n ids, from `from` on, has found after i of them, in k steps.
module _ (ls : List ℕ) (from n i k : ℕ) (s : all_of (sound_from ls) (consecutive (from + i) (n - i)) ≡ sound_range ls from n) (d : k + depths ls (from + i) (n - i) ≡ depths ls from n) where
  pub ways_long : (below : Bool) → below ≡ sound_below ls (from + n) → length ls < k → below ≡ sound_ways ls from n
  unfolding sound_ways
  ways_long below e h = by_test below
      (λ t. t ∙ sym (below_ways ls (from + n) (below_at ls (from + n) (sym e ∙ t)) from n (omega arith)))
      (λ t. t ∙ rw (lt-leb (depths ls from n) (length ls) (omega arith), sym e ∙ t) (sym (and_none (sound_range ls from n))))

  pub ways_all : n - i ≡ 0 → k ≤ length ls → true ≡ sound_ways ls from n
  unfolding sound_ways
  ways_all e h = rw (← s, ← test_none (sound_from ls) (from + i) (n - i) e, le-leb (depths ls from n) (length ls) (omega (arith, depths_none ls (from + i) (n - i) e)))

  -- One way more is sound, in w steps.
  module _ (h : i < n) (w : ℕ) (e : way ls (from + i) ≡ Some w) where
    pub turn_sound : all_of (sound_from ls) (consecutive (from + (i + 1)) (n - (i + 1))) ≡ sound_range ls from n
    turn_sound = test_passed (sound_from ls) (from + i) (n - i) (from + (i + 1)) (n - (i + 1)) (omega arith) (omega arith) (way_some ls (from + i) w e).0 ∙ s

    pub turn_steps : (k + w) + depths ls (from + (i + 1)) (n - (i + 1)) ≡ depths ls from n
    turn_steps = omega (arith, d, (way_some ls (from + i) w e).1, depths_next ls (from + i) (n - i) (from + (i + 1)) (n - (i + 1)) (omega arith) (omega arith))

    pub turn_low : w ≤ from + i
    turn_low = omega (arith, (way_some ls (from + i) w e).1, depth_low ls (from + i))
