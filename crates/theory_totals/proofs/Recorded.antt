-- What holds between the tables of the readings and the book of readings after each call of a list.
-- Assumes nothing.
use mathlib.Core.Path.{◌≡◌, refl, sym, ap, ap₂, ◌∙◌, subst}
use mathlib.Core.Bool.{true, false, not, true≢false}
use mathlib.Core.Logic.{◌≢◌, ⊎_elim}
use mathlib.Core.List.Memᴰ
use mathlib.Core.List.{List, [], ◌++◌, Memᴰ}
use Prim.Native.Nat.{ℕ, ◌+◌, ◌*◌, ◌^◌, ◌≤◌, ◌<◌}
use native.Mathlib.Omega.{arith}
use lib.Dec.{eqb}
use lib.IntN.{pos, nat_abs, +ℤ_idl}
use lib.ListN.{get_or, length, length-map, get_or-map}
use lib.Ieee.{Float}
use borrow.Author.Tests.{eqb-true, not-true}
use Rattle.lists.specs.Lists.{consecutive, keep, all_of, is_in}
use Rattle.lists.proofs.Cases.{by_test, and_both, and_first, and_second}
use Rattle.lists.proofs.Lists.{ascends_consecutive, ascends_keep, consecutive_in, consecutive_out, keep_in, keep_out, length-zeros, zeros_at}
use Rattle.lists.proofs.Tests.{all_in, all_out, in_is, is_in_lem}
use Rattle.cells.specs.Box.{volume}
use Rattle.cells.specs.Extents.{off_size}
use Rattle.cells.specs.Grid.{cells}
use Rattle.cutting.specs.Cutting.{Cutting, blocks, good_cut, block_extents}
use Rattle.joiner.specs.Book.{Book, uncut}
use Rattle.joiner.specs.Declines.{number_stands}
use Rattle.joiner.specs.Job.{Face, State, Told, Tables, count_of, from_of, lengths_fit, stage_number, Closed}
use Rattle.joiner.specs.Statement.{Labelling}
use Rattle.joiner.proofs.Linking.{number_stands_lem}
use Rattle.joiner.proofs.Simulation.{Sim, enrolled_block}
use Rattle.strains.specs.Units.{plus_zero, whole_units, float_of}
use Rattle.strains.specs.Readings.{is_good, units_sum, Reordered, of_kind}
use Rattle.strains.specs.declared.Reading.{Reading}
use Rattle.strains.proofs.Sums.{size_summed}
use Rattle.strains.proofs.Whole.{units_float}
use Rattle.totals.specs.Totals.{slot_of, reading_at, readings_for, side_at, given_side, totals_of, stands_at, both_stand}
use Rattle.totals.specs.declared.Side.{Side}
use Rattle.strain_calls.specs.Tables.{TotalTables, total_trays, zeroed}
use Rattle.strain_calls.specs.Calls.{all_come}
use Rattle.strain_calls.specs.Declines.{has_come, total_stands, face_stands, faces_stand}
use Rattle.strain_calls.specs.Outcomes.{OpenedTotals}
use Rattle.theory_totals.specs.Book.{ReadingBook, side_readings, side_totals, face_totals, reading_from, book_totals}
use Rattle.strain_calls.proofs.OpenLaws.{opening_fits}
use Rattle.pass_strain.specs.BlockReadings.{Brought}
use Rattle.theory_totals.specs.Volume.{brought_to, volume_taken, sums_over, counts_over}
use Rattle.theory_totals.proofs.Reordering.{NoRepeats, re_unique, unique_ascends, unique_append}
use Rattle.theory_totals.proofs.GoodLaws.{readings_good}
use Rattle.theory_totals.proofs.ClosedLaws.{few, table_few, table_exact, table_counted, sides_stand}
use Rattle.theory_totals.proofs.SideReadings.{side_readings_lem}

-- ---- the tables as an opening leaves them

-- No readings have come, and no sum and no count has any.
pub record Emptied (o : Told) (v : TotalTables) : Type 0 where
  pub came_long : length v.came ≡ blocks o.cutting
  pub sums_long : length v.sums ≡ 2 * o.entries Face
  pub counts_long : length v.counts ≡ 6 * o.entries Face
  pub none_come : (b : ℕ) → has_come v b ≡ false
  pub no_sums : (i : ℕ) → i < length v.sums → get_or v.sums i plus_zero ≡ plus_zero
  pub no_counts : (i : ℕ) → i < length v.counts → get_or v.counts i 0 ≡ 0

-- the three lengths of the tables
trays_long : (o : Told) (w : TotalTables) → lengths_fit (total_trays o w) ≡ true
    → (length w.came ≡ blocks o.cutting) × (length w.sums ≡ 2 * o.entries Face) × (length w.counts ≡ 6 * o.entries Face)
unfolding total_trays lengths_fit
trays_long o w e =
    let r = and_second (eqb (length w.came) (blocks o.cutting)) _ e in
    let t = and_second (eqb (length w.sums) (2 * o.entries Face)) _ r in
    (eqb-true _ _ (and_first _ _ e), eqb-true _ _ (and_first _ _ r), eqb-true _ _ (and_first _ _ t))

zeroed_empty : (o : Told) (w : TotalTables) → lengths_fit (total_trays o w) ≡ true → Emptied o (zeroed w)
unfolding zeroed has_come
zeroed_empty o w e =
    let l = trays_long o w e in
    record {
      came_long = length-zeros (length w.came) ∙ l.0;
      sums_long = length-map w.sums (λ x. plus_zero) ∙ l.1;
      counts_long = length-zeros (length w.counts) ∙ l.2;
      none_come = λ b. ap (λ (x : ℕ). not (eqb x 0)) (zeros_at (length w.came) b);
      no_sums = λ i h. get_or-map (λ x. plus_zero) w.sums i plus_zero;
      no_counts = λ i h. zeros_at (length w.counts) i;
    }

-- "The opening zeroes the totals."
pub opened_empty : (o : Told) (lent : Tables) (w : TotalTables) (s : State) (v : TotalTables) → OpenedTotals o lent w s v → Emptied o v
opened_empty o lent w s v P = subst (Emptied o) (sym P.totals) (zeroed_empty o w (opening_fits o lent w P.accepted).1)

-- ---- between the book and the tables

-- The tables w hold what the blocks have brought that have come by the book R, in their order, added to the tables v that the opening left.
pub record Recorded (o : Told) (own : ℕ → List ℕ) (v : TotalTables) (B : Book) (s : State) (R : ReadingBook) (w : TotalTables) : Type 0 where
  -- before the job is closed none have come
  pub early : stage_number B.stage ≢ stage_number Closed → R.came ≡ []
  pub long : length w.came ≡ blocks o.cutting
  pub ticks : (b : ℕ) → has_come w b ≡ is_in R.came b
  pub sums : w.sums ≡ sums_over o.cutting (brought_to s.tables own R.values R.kinds) v.sums R.came
  pub counts : w.counts ≡ counts_over o.cutting (brought_to s.tables own R.values R.kinds) v.counts R.came
  pub once : NoRepeats R.came
  pub listed : (b : ℕ) → Memᴰ b R.came → b < blocks o.cutting
  -- what has come, and what is taken where nothing has, are readings
  pub readings : (b i : ℕ) → b < blocks o.cutting → i < volume (block_extents o.cutting b) → is_good (reading_at (R.values b) (R.kinds b) i) ≡ true

-- ---- a closed job

module _ (o : Told) (own : ℕ → List ℕ) (ext : off_size 1024 o.cutting.extents ≡ false) (good : good_cut o.cutting ≡ true)
    (lab : (b : ℕ) → b < blocks o.cutting → Labelling (block_extents o.cutting b) (own b)) (v : TotalTables) (Z : Emptied o v) (B : Book) (s : State) (S : Sim o own ext good lab B s)
    (R : ReadingBook) (w : TotalTables) (Q : Recorded o own v B s R w) (at_closed : stage_number B.stage ≡ stage_number Closed) where
  abbrev k : Cutting
  k = o.cutting

  abbrev g : ℕ → Brought
  g = brought_to s.tables own R.values R.kinds

  abbrev all_blocks : List ℕ
  all_blocks = consecutive 0 (blocks k)

  all_once : NoRepeats all_blocks
  all_once = unique_ascends 0 all_blocks (ascends_consecutive 0 (blocks k))

  -- the blocks that have not come
  abbrev rest : List ℕ
  rest = keep (λ b. not (is_in R.came b)) all_blocks

  -- those that have come and those that have not are all blocks, in some order
  come_and_rest : Reordered (R.came ++ rest) all_blocks
  come_and_rest = re_unique (R.came ++ rest) all_blocks (unique_append R.came rest Q.once rest_once apart) all_once there back
    where
      rest_out : (b : ℕ) → Memᴰ b rest → Memᴰ b all_blocks × (not (is_in R.came b) ≡ true)
      rest_out b m = keep_out (λ b. not (is_in R.came b)) all_blocks m

      rest_once : NoRepeats rest
      rest_once = unique_ascends 0 rest (ascends_keep (λ b. not (is_in R.came b)) 0 all_blocks (ascends_consecutive 0 (blocks k)))

      apart : (b : ℕ) → Memᴰ b R.came → Memᴰ b rest → ⊥
      apart b m n = true≢false (sym (is_in_lem R.came m) ∙ not-true _ (rest_out b n).1)

      there : (b : ℕ) → Memᴰ b (R.came ++ rest) → Memᴰ b all_blocks
      there b m = ⊎_elim (λ i. consecutive_in 0 (blocks k) (omega arith) (omega (arith, Q.listed b i))) (λ i. (rest_out b i).0) (Memᴰ.append_cases R.came m)

      back : (b : ℕ) → Memᴰ b all_blocks → Memᴰ b (R.came ++ rest)
      back b m =
          by_test (is_in R.came b)
          (λ t. Memᴰ.append_left rest (in_is R.came t))
          (λ t. Memᴰ.append_right R.came (keep_in (λ b. not (is_in R.came b)) all_blocks m (ap not t)))

  readings_all : (i : ℕ) → all_of is_good (readings_for i (volume_taken k g)) ≡ true
  readings_all = readings_good k good g Q.readings

  -- 8 is not given for a total ..
  pub totals_stand : (n : ℕ) → 0 < n → total_stands k w n ≡ true
  unfolding total_stands both_stand
  totals_stand n hn =
      let at : (side : ℕ) → side ≤ 1 → stands_at (cells k.extents) w.sums w.counts (slot_of n side) ≡ true =
      λ side h.
      ap₂ (λ (x : List Float) (c : List ℕ). stands_at (cells k.extents) x c (slot_of n side)) Q.sums Q.counts
      ∙ sides_stand o own ext good lab B s S at_closed R.values R.kinds R.came rest come_and_rest (o.entries Face) v.sums v.counts Z.sums_long Z.counts_long Z.no_sums Z.no_counts readings_all n side hn h in
      and_both (stands_at (cells k.extents) w.sums w.counts (slot_of n 0)) (stands_at (cells k.extents) w.sums w.counts (slot_of n 1)) (at 0 (omega arith)) (at 1 (omega arith))

  -- .. and not for the faces of a block
  pub faces_stand_lem : (b : ℕ) → b < blocks k → faces_stand s w b ≡ true
  unfolding faces_stand face_stands
  faces_stand_lem b hb =
      let within = (S.final_two (omega arith)).0.within in
      let enrolled = (enrolled_block o own ext good lab B s S (omega arith) b hb).0 in
      all_in (face_stands s w) (consecutive (from_of s.tables Face b) (count_of s.tables Face b))
      (λ x m.
      let hx : x < s.job.sofar Face = omega (arith, consecutive_out (from_of s.tables Face b) (count_of s.tables Face b) m, enrolled) in
      and_both (number_stands s Face x) (total_stands s.job.told.cutting w (get_or (s.tables.numbers Face) x 0)) (number_stands_lem s Face within x hx)
      (ap (λ (z : Told). total_stands z.cutting w (get_or (s.tables.numbers Face) x 0)) S.inv.told ∙ totals_stand (get_or (s.tables.numbers Face) x 0) (within x hx).0))

  -- ---- all blocks have come

  module _ (all : all_come k (is_in R.came) ≡ true) where
    -- each block has
    pub each_come : (b : ℕ) → b < blocks k → Memᴰ b R.came
    unfolding all_come
    each_come b hb = in_is R.came (all_out (is_in R.came) all_blocks all (consecutive_in 0 (blocks k) (omega arith) (omega arith)))

    came_all : Reordered R.came all_blocks
    came_all =
        re_unique R.came all_blocks Q.once all_once (λ b m. consecutive_in 0 (blocks k) (omega arith) (omega (arith, Q.listed b m)))
        (λ b m. each_come b (omega (arith, consecutive_out 0 (blocks k) m)))

    module _ (n : ℕ) (hn : 0 < n) (most : n ≤ o.entries Face) where
      module _ (side : ℕ) (hs : side ≤ 1) where
        abbrev slot : ℕ
        slot = slot_of n side

        abbrev taken : List Reading
        taken = readings_for slot (volume_taken k g)

        abbrev on_side_lem : List Reading
        on_side_lem = side_readings k.extents (uncut B) (reading_from k R.values R.kinds) n side

        same_readings : taken ≡ on_side_lem
        same_readings = side_readings_lem o own ext good lab B s S at_closed R.values R.kinds n side hn hs

        slot_in : (slot < length v.sums) × (3 * slot + 2 < length v.counts)
        unfolding slot_of
        slot_in = (omega (arith, Z.sums_long), omega (arith, Z.counts_long))

        taken_size : nat_abs (units_sum taken) < 2 ^ 53
        taken_size =
            omega (
              arith,
              ap nat_abs (+ℤ_idl (units_sum taken)),
              size_summed (pos 0) taken (readings_all slot),
              table_few o own ext good lab B s S at_closed R.values R.kinds n side hn hs,
              few o own ext good lab B s S at_closed R.values R.kinds n,
            )

        -- the sum of a side is below the bound of exactness
        pub side_size : nat_abs (units_sum on_side_lem) < 2 ^ 53
        side_size = subst (λ (l : List Reading). nat_abs (units_sum l) < 2 ^ 53) same_readings taken_size

        sum_is : float_of (whole_units (get_or w.sums slot plus_zero)) ≡ float_of (units_sum on_side_lem)
        sum_is =
            ap (λ (x : Float). float_of (whole_units x))
            (ap (λ (l : List Float). get_or l slot plus_zero) Q.sums
            ∙ table_exact o own ext good lab B s S at_closed R.values R.kinds R.came came_all n side hn hs v.sums slot_in.0 (Z.no_sums slot slot_in.0) (readings_all slot))
            ∙ ap float_of (units_float (units_sum taken) taken_size ∙ ap units_sum same_readings)

        count_is : (j : ℕ) → j ≤ 2 → get_or w.counts (3 * slot + j) 0 ≡ of_kind j on_side_lem
        count_is j hj =
            let l : 3 * slot + j < length v.counts = omega (arith, slot_in.1) in
            ap (λ (l : List ℕ). get_or l (3 * slot + j) 0) Q.counts
            ∙ table_counted o own ext good lab B s S at_closed R.values R.kinds R.came came_all n side hn hs j hj v.counts l (Z.no_counts (3 * slot + j) l)
            ∙ ap (of_kind j) same_readings

        side_is : given_side (side_at w.sums w.counts slot) ≡ side_totals on_side_lem
        unfolding given_side side_at side_totals
        side_is =
            let z : 3 * slot ≡ 3 * slot + 0 = omega arith in
            rw (sum_is, ap (λ (i : ℕ). get_or w.counts i 0) z ∙ count_is 0 (omega arith), count_is 1 (omega arith), count_is 2 (omega arith)) refl

      -- A total that is read is that of the uncut face.
      pub totals_are : totals_of w.sums w.counts n ≡ book_totals B R n
      unfolding totals_of book_totals face_totals
      totals_are =
          ap₂ (λ (x y : Side). record { lower = x; higher = y }) (side_is 0 (omega arith)) (side_is 1 (omega arith))
          ∙ sym (ap (λ (z : Told). face_totals z.cutting.extents (uncut B) (reading_from z.cutting R.values R.kinds) n) S.inv.btold)
