-- The totals of a closed job are exact, and stand: a face of the uncut volume has few enough cells.
-- Assumes nothing.
use mathlib.Core.Path.{◌≡◌, sym, subst}
use mathlib.Core.Bool.{true, false}
use mathlib.Core.List.{List, ◌++◌}
use Prim.Native.Nat.{ℕ, ◌+◌, ◌*◌, ◌≤◌, ◌<◌, ◌^◌}
use native.Mathlib.Omega.{arith}
use lib.Dec.{eqb, ltb}
use lib.ListN.{get_or, length}
use lib.Ieee.{Float}
use borrow.Author.Tests.{ltb-true, ltb-false}
use Rattle.lists.specs.Lists.{consecutive, all_of}
use Rattle.lists.proofs.Cases.{by_test}
use Rattle.lists.proofs.Lists.{length-keep, length-consecutive}
use Rattle.cells.specs.Extents.{off_size}
use Rattle.cells.specs.Grid.{cells, order}
use Rattle.extents.proofs.SizeLaws.{sized_of}
use Rattle.labels.specs.Components.{of_order, component}
use Rattle.labels.proofs.OrderCounts.{component_cells_fit}
use Rattle.cutting.specs.Cutting.{Cutting, blocks, good_cut, block_extents}
use Rattle.joiner.specs.Book.{Book, uncut}
use Rattle.joiner.specs.Job.{State, Told, stage_number, Closed}
use Rattle.joiner.specs.Statement.{Labelling}
use Rattle.joiner.proofs.Simulation.{Sim}
use Rattle.strains.specs.Units.{plus_zero, float_of}
use Rattle.strains.specs.declared.Reading.{Reading}
use Rattle.strains.specs.Readings.{is_good, units_sum, Reordered, of_kind}
use Rattle.totals.specs.Totals.{slot_of, readings_for, stands_at}
use Rattle.pass_strain.specs.BlockReadings.{Brought}
use Rattle.theory_totals.specs.Book.{reading_from}
use Rattle.theory_totals.specs.Volume.{brought_to, volume_taken, sums_over, counts_over}
use Rattle.theory_totals.proofs.SlotLaws.{kind_few}
use Rattle.theory_totals.proofs.OrderLaws.{total_exact, total_counted}
use Rattle.theory_totals.proofs.SideCounts.{side_few}
use Rattle.theory_totals.proofs.SideReadings.{side_readings_lem}
use Rattle.theory_totals.proofs.StandingLaws.{stands_sofar, stands_past, over_lengths}

module _ (o : Told) (own : ℕ → List ℕ) (ext : off_size 1024 o.cutting.extents ≡ false) (good : good_cut o.cutting ≡ true)
    (lab : (b : ℕ) → b < blocks o.cutting → Labelling (block_extents o.cutting b) (own b)) (B : Book) (s : State) (S : Sim o own ext good lab B s) (at_closed : stage_number B.stage ≡ stage_number Closed)
    (values : ℕ → List Float) (kinds : ℕ → List ℕ) where
  abbrev k : Cutting
  k = o.cutting

  abbrev pub g : ℕ → Brought
  g = brought_to s.tables own values kinds

  -- a face has fewer than 2^32 cells, and no more than the volume has
  pub few : (n : ℕ) → length (component k.extents (uncut B) 2 n) < 2 ^ 32
  few n = component_cells_fit k.extents (uncut B) 2 n (sized_of 1024 k.extents ext)

  within_cells : (n : ℕ) → length (component k.extents (uncut B) 2 n) ≤ cells k.extents
  unfolding component of_order
  within_cells n =
      omega (
        arith,
        length-keep (λ p. eqb (get_or (uncut B) p 0) n) (of_order k.extents 2),
        length-keep (λ p. eqb (order k.extents p) 2) (consecutive 0 (cells k.extents)),
        length-consecutive 0 (cells k.extents),
      )

  -- Each side of face n has at most as many readings as the face has cells in the uncut map.
  pub table_few : (n side : ℕ) → 0 < n → side ≤ 1 → length (readings_for (slot_of n side) (volume_taken k g)) ≤ length (component k.extents (uncut B) 2 n)
  table_few n side hn hs =
      subst (λ (l : List Reading). length l ≤ length (component k.extents (uncut B) 2 n)) (sym (side_readings_lem o own ext good lab B s S at_closed values kinds n side hn hs))
      (side_few k.extents (uncut B) (reading_from k values kinds) side hs n)

  -- With the readings of all blocks come, in any order, "sums are then exact, and .. equal the sum over whole 1,024ths" ..
  module _ (bs : List ℕ) (all : Reordered bs (consecutive 0 (blocks k))) (n side : ℕ) (hn : 0 < n) (hs : side ≤ 1) where
    pub table_exact : (sums : List Float) → slot_of n side < length sums → get_or sums (slot_of n side) plus_zero ≡ plus_zero → all_of is_good (readings_for (slot_of n side) (volume_taken k g)) ≡ true
        → get_or (sums_over k g sums bs) (slot_of n side) plus_zero ≡ float_of (units_sum (readings_for (slot_of n side) (volume_taken k g)))
    table_exact sums h z ok = total_exact k good g bs all (slot_of n side) sums h z ok (omega (arith, few n, table_few n side hn hs))

    -- .. and the counts are the numbers of strains, clipped and missing among the same readings.
    pub table_counted : (j : ℕ) → j ≤ 2 → (counts : List ℕ) → 3 * slot_of n side + j < length counts → get_or counts (3 * slot_of n side + j) 0 ≡ 0
        → get_or (counts_over k g counts bs) (3 * slot_of n side + j) 0 ≡ of_kind j (readings_for (slot_of n side) (volume_taken k g))
    table_counted j hj counts h z =
        total_counted k good g bs all (slot_of n side) j hj counts h z (omega (arith, kind_few j (readings_for (slot_of n side) (volume_taken k g)), few n, table_few n side hn hs))

  -- While the readings come, in any order, every side of every face stands, so that 8 is not given for a total.
  module _ (came rest : List ℕ) (all : Reordered (came ++ rest) (consecutive 0 (blocks k))) (entries : ℕ) (sums : List Float) (counts : List ℕ) (ls : length sums ≡ 2 * entries) (lc : length counts ≡ 6 * entries)
      (zs : (i : ℕ) → i < length sums → get_or sums i plus_zero ≡ plus_zero) (zc : (i : ℕ) → i < length counts → get_or counts i 0 ≡ 0)
      (ok : (i : ℕ) → all_of is_good (readings_for i (volume_taken k g)) ≡ true) where
    pub sides_stand : (n side : ℕ) → 0 < n → side ≤ 1 → stands_at (cells k.extents) (sums_over k g sums came) (counts_over k g counts came) (slot_of n side) ≡ true
    sides_stand n side hn hs =
        by_test (ltb (slot_of n side) (2 * entries))
        (λ t.
        let l : slot_of n side < 2 * entries = ltb-true (slot_of n side) (2 * entries) t in
        let w = table_few n side hn hs in
        stands_sofar k good g came rest all (slot_of n side) (cells k.extents) sums counts (omega arith) (omega arith) (zs (slot_of n side) (omega arith)) (λ j hj. zc (3 * slot_of n side + j) (omega arith)) (ok (slot_of n side))
        (omega (arith, few n)) (omega (arith, within_cells n)))
        (λ t.
        let l : 2 * entries ≤ slot_of n side = ltb-false (slot_of n side) (2 * entries) t in
        let w = over_lengths k g sums counts came in
        stands_past (cells k.extents) (sums_over k g sums came) (counts_over k g counts came) (slot_of n side) (omega (arith, w.0)) (omega (arith, w.1)))
