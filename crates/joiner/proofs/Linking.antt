-- Where no enrolled link is longer than its place and every enrolled final number is one of the closed table's, what the steps and lookups read stands.
-- Assumes nothing.
use mathlib.Core.Bool.{true}
use mathlib.Core.List.{List}
use mathlib.Core.Path.{◌≡◌, ap, refl}
use Prim.Native.Nat.{◌+◌, ◌<◌, ◌≤◌, ℕ}
use native.Mathlib.Omega.{arith}
use lib.Dec.{eqb, leb, ltb}
use lib.ListN.{get_or}
use borrow.Author.Tests.{eqb-false, eqb-true, le-leb, lt-ltb}
use Rattle.lists.specs.Lists.{consecutive}
use Rattle.union_find.specs.Links.{sound_at, sound_below}
use Rattle.cells.specs.Grid.{cells, order}
use Rattle.labels.specs.Components.{largest}
use Rattle.cutting.specs.Cutting.{block_extents}
use Rattle.joiner.specs.Declines.{all_links_stand, curves_stand, handed_stands, links_stand, look_stands, number_stands, ways_stand}
use Rattle.joiner.specs.Job.{Curve, Face, Kind, State, count_of, from_of, node, order_of}
use Rattle.labels.proofs.CountLaws.{largest_bound}
use Rattle.lists.proofs.Cases.{and_both, by_test, or_on_left, or_on_right, picked}
use Rattle.lists.proofs.Lists.{consecutive_out}
use Rattle.lists.proofs.Tests.{all_in}
use Rattle.union_find.proofs.SoundLaws.{at_below, below_ways}

-- no enrolled link of a kind is longer than its place
abbrev pub Sound : State → Kind → Type 0
Sound s κ = (x : ℕ) → x < s.job.sofar κ → sound_at (s.tables.links κ) x ≡ true

-- each enrolled one of a kind has a final number
abbrev pub Within : State → Kind → Type 0
Within s κ = (x : ℕ) → x < s.job.sofar κ → (0 < get_or (s.tables.numbers κ) x 0) × (get_or (s.tables.numbers κ) x 0 ≤ s.job.numbered κ)

-- the block's components of a kind are enrolled
abbrev pub Enrolled : State → ℕ → Kind → Type 0
Enrolled s b κ = from_of s.tables κ b + count_of s.tables κ b ≤ s.job.sofar κ

module _ (s : State) (faces : Sound s Face) (curves : Sound s Curve) where
  ways_stand_lem : (b : ℕ) (κ : Kind) → Sound s κ → Enrolled s b κ → ways_stand s b κ ≡ true
  unfolding ways_stand
  ways_stand_lem b κ h e = below_ways (s.tables.links κ) (s.job.sofar κ) h (from_of s.tables κ b) (count_of s.tables κ b) e

  pub block_links : (b : ℕ) → Enrolled s b Face → Enrolled s b Curve → links_stand s b ≡ true
  unfolding links_stand
  block_links b e f = and_both (ways_stand s b Face) (ways_stand s b Curve) (ways_stand_lem b Face faces e) (ways_stand_lem b Curve curves f)

  pub all_links : all_links_stand s ≡ true
  unfolding all_links_stand
  all_links =
      and_both (sound_below (s.tables.links Face) (s.job.sofar Face)) (sound_below (s.tables.links Curve) (s.job.sofar Curve))
      (at_below (s.tables.links Face) (s.job.sofar Face) faces) (at_below (s.tables.links Curve) (s.job.sofar Curve) curves)

module _ (s : State) where
  -- the final number of an enrolled one stands
  pub number_stands_lem : (κ : Kind) → Within s κ → (x : ℕ) → x < s.job.sofar κ → number_stands s κ x ≡ true
  unfolding number_stands
  number_stands_lem κ w x h = and_both (ltb 0 (get_or (s.tables.numbers κ) x 0)) (leb (get_or (s.tables.numbers κ) x 0) (s.job.numbered κ)) (lt-ltb _ _ (w x h).0) (le-leb _ _ (w x h).1)

  pub curves_stand_lem : (b : ℕ) → Within s Curve → Enrolled s b Curve → curves_stand s b ≡ true
  unfolding curves_stand
  curves_stand_lem b w e =
      all_in (number_stands s Curve) (consecutive (from_of s.tables Curve b) (count_of s.tables Curve b))
      (λ x m. number_stands_lem Curve w x (omega (arith, consecutive_out (from_of s.tables Curve b) (count_of s.tables Curve b) m)))

  handed_stands_lem : (b : ℕ) (κ : Kind) (n : ℕ) → Within s κ → Enrolled s b κ → n ≤ count_of s.tables κ b → handed_stands s b κ n ≡ true
  unfolding handed_stands node
  handed_stands_lem b κ n w e h =
      by_test (eqb n 0)
      (λ t. or_on_left (eqb n 0) _ t)
      (λ t. or_on_right (eqb n 0) _ (number_stands_lem κ w (node s.tables κ b n) (positive (eqb-false n 0 t))))
    where
      positive : (n ≡ 0 → ⊥) → node s.tables κ b n < s.job.sofar κ
      positive k = omega arith

  -- what a lookup hands out, of a map that keeps to the block's counts
  pub look_stands_lem : (b : ℕ) (m : List ℕ) (p : ℕ) → p < cells (block_extents s.job.told.cutting b)
      → ((κ : Kind) → largest (block_extents s.job.told.cutting b) m (order_of κ) ≤ count_of s.tables κ b)
      → Within s Face × Within s Curve → Enrolled s b Face × Enrolled s b Curve → look_stands s b m p ≡ true
  unfolding look_stands
  look_stands_lem b m p hp most w e =
      picked (λ t. t ≡ true) (eqb d 2) _ _ (λ t. handed_stands_lem b Face (get_or m p 0) w.0 e.0 (below Face (eqb-true d 2 t)))
      (λ _. picked (λ t. t ≡ true) (eqb d 1) _ _ (λ t. handed_stands_lem b Curve (get_or m p 0) w.1 e.1 (below Curve (eqb-true d 1 t))) (λ _. refl))
    where
      d : ℕ
      d = order (block_extents s.job.told.cutting b) p

      below : (κ : Kind) → d ≡ order_of κ → get_or m p 0 ≤ count_of s.tables κ b
      below κ q = omega (arith, largest_bound (block_extents s.job.told.cutting b) m p hp, ap (largest (block_extents s.job.told.cutting b) m) q, most κ)
