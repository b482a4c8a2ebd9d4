-- One call of item 1 against the day book and the book of readings.
-- Assumes nothing.
use mathlib.Core.Path.{◌≡◌, refl, sym, ap, ap₂, ◌∙◌, subst}
use mathlib.Core.Bool.{Bool, true, false, not, ◌&&◌, ◌||◌, true≢false}
use mathlib.Core.Logic.{◌≢◌, ⊎_elim}
use mathlib.Core.List.Memᴰ
use mathlib.Core.List.{List, [], ◌∷◌, ◌++◌, Memᴰ}
use Prim.Native.Nat.{ℕ, ◌*◌, ◌≤◌, ◌<◌}
use native.Mathlib.Omega.{arith}
use lib.Dec.{eqb, leb, ltb}
use lib.ListN.{length, length-set}
use lib.Ieee.{Float}
use borrow.Author.Tests.{eqb-true, eqb-false, eq-eqb, ne_eqb, leb-true, ltb-true, not-false}
use Rattle.lists.specs.Lists.{consecutive, is_in, some_of}
use Rattle.lists.proofs.Cases.{by_test, and_both, and_first, and_second}
use Rattle.lists.proofs.Tests.{all_same, is_in_lem}
use Rattle.refusals.specs.declared.Refusal.{Refusal}
use Rattle.refusals.specs.Refusals.{number, stands_in}
use Rattle.refusals.proofs.RefusalLaws.{given_none}
use Rattle.cells.specs.Box.{volume}
use Rattle.cells.specs.Extents.{off_size}
use Rattle.cells.specs.Grid.{cells}
use Rattle.cutting.specs.Cutting.{Cutting, blocks, good_cut, block_extents}
use Rattle.joiner.specs.Book.{Book, uncut_count}
use Rattle.joiner.specs.Declines.{map_stands, tallies_fit}
use Rattle.joiner.specs.Job.{Closed, Face, Stage, State, Told, from_of, lengths_fit, number_trays, numbers_per_block, same_stage, stage_number, tray}
use Rattle.joiner.specs.Statement.{Labelling}
use Rattle.joiner.proofs.Accepted.{tick_at}
use Rattle.joiner.proofs.Inv.{Inv, and_so, fit, own_of, tallies_fit_lem}
use Rattle.joiner.proofs.Ladder.{Alongside, Bookish, EarlyOnly, given_agree, given_early, given_early_only, given_stray}
use Rattle.joiner.proofs.Simulation.{Sim, maps_at, total_at_lem}
use Rattle.joiner.proofs.Sizes.{fits_both, numbers_fit}
use Rattle.totals.specs.Totals.{sums_with, counts_with}
use Rattle.totals.proofs.TotalLaws.{fit_good}
use Rattle.strain_calls.specs.Tables.{TotalTables, total_trays}
use Rattle.strain_calls.specs.Adding.{block_adds, cell_adds, counted_cells, gathered}
use Rattle.strain_calls.specs.Calls.{StrainCall, strain, total, StrainAnswer, strain_answer, all_come, in_stage, has_place, again, lists_fit, bad_reading}
use Rattle.strain_calls.specs.Declines.{has_come, lent_for, total_stands, faces_stand, strain_stands, strain_declines, strain_refusal}
use Rattle.strain_calls.specs.Outcomes.{StrainDone, StrainStep, with_readings}
use Rattle.theory_totals.specs.Book.{ReadingBook, strain_early_cases, strain_book_declines, strain_book_refusal, strain_book_early, brings_map, strain_accepts, readings_after, turned_readings, strain_book_answer}
use Rattle.theory_totals.specs.Statement.{StrainBrings, StrainAgrees}
use Rattle.lowest.specs.Lowest.{starts}
use Rattle.pass_strain.specs.BlockReadings.{Brought, brought, block_taken}
use Rattle.pass_strain.proofs.AddingLaws.{block_adds_lem}
use Rattle.theory_totals.specs.Volume.{brought_to, taken_by}
use Rattle.theory_totals.proofs.Reordering.{unique_append}
use Rattle.theory_totals.proofs.OrderLaws.{sums_more, counts_more}
use Rattle.theory_totals.proofs.StandingLaws.{over_lengths}
use Rattle.theory_totals.proofs.Recorded.{Emptied, Recorded, totals_stand, faces_stand_lem, totals_are}

-- ---- small laws

-- both calls go to a closed job
pub stage_closed : (k : Cutting) (x : Stage) (come : ℕ → Bool) (c : StrainCall) → in_stage k x come c ≡ true → stage_number x ≡ stage_number Closed
unfolding same_stage
stage_closed k x come (strain b m values kinds) t = eqb-true (stage_number x) (stage_number Closed) t
stage_closed k x come (total n) t = eqb-true (stage_number x) (stage_number Closed) (and_first (eqb (stage_number x) (stage_number Closed)) (all_come k come) t)

-- the entries of a list and one more
in_last : (l : List ℕ) (b i : ℕ) → is_in (l ++ (b ∷ [])) i ≡ (eqb b i || is_in l i)
unfolding is_in
in_last [] b i = refl
in_last (x ∷ l) b i = rw (in_last l b i) (turn (eqb x i) (eqb b i) (some_of (λ y. eqb y i) l))
  where
    turn : (s t u : Bool) → (s || (t || u)) ≡ (t || (s || u))
    turn true true u = refl
    turn true false u = refl
    turn false t u = refl

module _ (o : Told) (own : ℕ → List ℕ) (ext : off_size 1024 o.cutting.extents ≡ false) (good : good_cut o.cutting ≡ true)
    (lab : (b : ℕ) → b < blocks o.cutting → Labelling (block_extents o.cutting b) (own b)) (v : TotalTables) (Z : Emptied o v) (B : Book) (s : State) (S : Sim o own ext good lab B s)
    (R : ReadingBook) (w : TotalTables) (Q : Recorded o own v B s R w) where
  abbrev k : Cutting
  k = o.cutting

  abbrev I : Inv o own B s
  I = S.inv

  -- what the service and the book were told is the same
  alike : s.job.told ≡ B.told
  alike = I.told ∙ sym I.btold

  -- ---- 3 to 6

  stage_same : (c : StrainCall) → in_stage s.job.told.cutting s.job.stage (has_come w) c ≡ in_stage B.told.cutting B.stage (is_in R.came) c
  unfolding all_come
  stage_same (strain b m values kinds) = ap (λ (x : Stage). same_stage x Closed) I.stage
  stage_same (total n) =
      ap₂ (λ (x : Stage) (t : Bool). same_stage x Closed && t) I.stage (ap (λ (z : Told). all_come z.cutting (has_come w)) alike ∙ all_same (has_come w) (is_in R.came) (consecutive 0 (blocks B.told.cutting)) Q.ticks)

  place_same : stage_number B.stage ≡ stage_number Closed → (c : StrainCall) → has_place s.job.told.cutting (s.job.numbered Face) c ≡ has_place B.told.cutting (uncut_count B Face) c
  place_same h (strain b m values kinds) = ap (λ (z : Told). ltb b (blocks z.cutting)) alike
  place_same h (total n) = ap (λ (x : ℕ). ltb 0 n && leb n x) (total_at_lem o own ext good lab B s S h Face)

  again_same : (c : StrainCall) → again (has_come w) c ≡ again (is_in R.came) c
  again_same (strain b m values kinds) = Q.ticks b
  again_same (total n) = refl

  totals_fit : lengths_fit (total_trays o w) ≡ true
  unfolding total_trays lengths_fit
  totals_fit =
      let l = over_lengths o.cutting (brought_to s.tables own R.values R.kinds) v.sums v.counts R.came in
      rw (
        eq-eqb (length w.came) (blocks o.cutting) Q.long,
        eq-eqb (length w.sums) (2 * o.entries Face) (ap length Q.sums ∙ l.0 ∙ Z.sums_long),
        eq-eqb (length w.counts) (6 * o.entries Face) (ap length Q.counts ∙ l.1 ∙ Z.counts_long),
      ) refl

  lent_fits : (c : StrainCall) → lengths_fit (lent_for o s.tables w c) ≡ true
  lent_fits (strain b m values kinds) = one_more
    where
      one_more : lengths_fit (tray (length s.tables.blocks) (numbers_per_block * blocks o.cutting) ∷ (number_trays o s.tables Face ++ total_trays o w)) ≡ true
      one_more =
          unfold lengths_fit in
          and_both (eqb (length s.tables.blocks) (numbers_per_block * blocks o.cutting)) (lengths_fit (number_trays o s.tables Face ++ total_trays o w)) (eq-eqb _ _ I.sizes.blocks_long)
          (fits_both (number_trays o s.tables Face) (total_trays o w) (numbers_fit o s.tables I.sizes Face) totals_fit)
  lent_fits (total n) = totals_fit

  module _ (c : StrainCall) where
    -- the stage, where 3 is not given
    closed_of : not (in_stage s.job.told.cutting s.job.stage (has_come w) c) ≡ false → stage_number B.stage ≡ stage_number Closed
    closed_of t = ap stage_number (sym I.stage) ∙ stage_closed s.job.told.cutting s.job.stage (has_come w) c (not-false _ t)

    alongside : Alongside (stands_in (strain_declines s w c)) (stands_in (strain_book_declines B R c))
    unfolding strain_declines strain_book_declines stands_in number
    alongside =
        record {
          f_size = ap (λ (z : Told). off_size 1024 z.cutting.extents) I.told ∙ ext;
          f_cut = ap not (ap (λ (z : Told). good_cut z.cutting) I.told ∙ good);
          f_blank = refl;
          f_record = refl;
          stage = ap not (stage_same c);
          early = λ t. (
            ap not (place_same (closed_of t) c),
            again_same c,
            ap not (and_so o own ext good lab B s I (lists_fit s.job.told.cutting c) (lengths_fit (lent_for s.job.told s.tables w c)) (ap (λ (z : Told). lengths_fit (lent_for z s.tables w c)) I.told ∙ lent_fits c) ∙ ap (λ (z : Told). lists_fit z.cutting c) alike),
          );
        }

    bookish : Bookish (stands_in (strain_book_declines B R c))
    unfolding strain_book_declines stands_in number
    bookish = record { g_size = refl; g_cut = refl; g_blank = refl; g_stray = refl; g_record = refl }

    earlier : EarlyOnly (stands_in (strain_book_declines B R c)) (stands_in (strain_early_cases B R c))
    unfolding strain_book_declines stands_in number
    earlier =
        record { h_size = refl; h_cut = refl; h_stage = refl; h_place = refl; h_done = refl; h_tray = refl; h_blank = refl; h_stray = refl; h_layers = refl; h_full = refl; h_record = refl; h_reading = refl }

    book_stray : strain_book_refusal B R c ≢ 8
    unfolding strain_book_refusal
    book_stray = given_stray (stands_in (strain_book_declines B R c)) bookish

    early_agrees : strain_book_early B R c ≢ 0 → strain_refusal s w c ≡ strain_book_early B R c
    unfolding strain_refusal strain_book_early
    early_agrees = given_early (stands_in (strain_declines s w c)) (stands_in (strain_book_declines B R c)) alongside (stands_in (strain_early_cases B R c)) earlier

    early_only : 0 < strain_refusal s w c → strain_refusal s w c ≤ 6 → strain_refusal s w c ≡ strain_book_early B R c
    unfolding strain_refusal strain_book_early
    early_only = given_early_only (stands_in (strain_declines s w c)) (stands_in (strain_book_declines B R c)) alongside (stands_in (strain_early_cases B R c)) earlier

  -- ---- maps, and 8

  -- a call with its block's own map brings what the book takes for it, and back
  brings_map_lem : stage_number B.stage ≡ stage_number Closed → (c : StrainCall) → has_place k (s.job.numbered Face) c ≡ true → StrainBrings own c → brings_map B c ≡ true
  brings_map_lem h (strain b m values kinds) p e = maps_at o own ext good lab B s S b (ltb-true b (blocks k) p) (omega arith) m e
  brings_map_lem h (total n) p e = refl

  brings_own_lem : stage_number B.stage ≡ stage_number Closed → (c : StrainCall) → has_place k (s.job.numbered Face) c ≡ true → brings_map B c ≡ true → StrainBrings own c
  brings_own_lem h (strain b m values kinds) p e = own_of o own ext good lab B s I (omega arith) b (ltb-true b (blocks k) p) m e
  brings_own_lem h (total n) p e = tt

  all_stands : (h : stage_number B.stage ≡ stage_number Closed) (c : StrainCall) → has_place k (s.job.numbered Face) c ≡ true → StrainBrings own c → strain_stands s w c ≡ true
  all_stands h (strain b m values kinds) p e =
      and_both (map_stands s (block_extents s.job.told.cutting b) b m) (faces_stand s w b)
      (fit o own ext good lab B s I b m (ltb-true b (blocks k) p) (omega arith) (brings_map_lem h (strain b m values kinds) p e))
      (faces_stand_lem o own ext good lab v Z B s S R w Q h b (ltb-true b (blocks k) p))
  all_stands h (total n) p e =
      ap (λ (z : Told). total_stands z.cutting w n) I.told ∙ totals_stand o own ext good lab v Z B s S R w Q h n (ltb-true 0 n (and_first (ltb 0 n) (leb n (s.job.numbered Face)) p))

  -- ---- the refusal of a call that brings its block's map

  module _ (c : StrainCall) where
    placed_of : not (has_place s.job.told.cutting (s.job.numbered Face) c) ≡ false → has_place k (s.job.numbered Face) c ≡ true
    placed_of t = ap (λ (z : Told). has_place z.cutting (s.job.numbered Face) c) (sym I.told) ∙ not-false _ t

    refused_by : (stage_number B.stage ≡ stage_number Closed → has_place k (s.job.numbered Face) c ≡ true → StrainBrings own c) → strain_refusal s w c ≡ strain_book_refusal B R c
    unfolding strain_refusal strain_book_refusal strain_declines strain_book_declines stands_in number
    refused_by e =
        given_agree (stands_in (strain_declines s w c)) (stands_in (strain_book_declines B R c)) (alongside c) (bookish c)
        (λ a b.
        let h : stage_number B.stage ≡ stage_number Closed = closed_of c a in
        let p : has_place k (s.job.numbered Face) c ≡ true = placed_of b in
        (ap not (and_both (tallies_fit s.job) (strain_stands s w c) (tallies_fit_lem o own ext good lab B s I) (all_stands h c p (e h p))), refl, refl, refl))

    brought_agrees : StrainBrings own c → strain_refusal s w c ≡ strain_book_refusal B R c
    brought_agrees e = refused_by (λ h p. e)

    map-agrees : brings_map B c ≡ true → strain_refusal s w c ≡ strain_book_refusal B R c
    map-agrees e = refused_by (λ h p. brings_own_lem h c p e)

    -- ---- what an accepted call passed

    pub record Passed : Type 0 where
      pub closed : stage_number B.stage ≡ stage_number Closed
      pub staged : in_stage k B.stage (is_in R.came) c ≡ true
      pub placed : has_place k (s.job.numbered Face) c ≡ true
      pub fresh : again (is_in R.came) c ≡ false
      pub lists : lists_fit k c ≡ true
      pub fits : bad_reading c ≡ false

    passed : strain_refusal s w c ≡ 0 → Passed
    unfolding strain_refusal strain_declines stands_in number
    passed r =
        let n : (z : Refusal) → stands_in (strain_declines s w c) z ≡ false = (given_none (stands_in (strain_declines s w c))).0 r in
        record {
          closed = closed_of c (n Refusal.WrongStage);
          staged = ap (λ (z : Told). in_stage z.cutting B.stage (is_in R.came) c) (sym I.btold) ∙ sym (stage_same c) ∙ not-false _ (n Refusal.WrongStage);
          placed = placed_of (n Refusal.NoSuchPlace);
          fresh = sym (again_same c) ∙ n Refusal.DoneAlready;
          lists = ap (λ (z : Told). lists_fit z.cutting c) (sym I.told) ∙ and_first (lists_fit s.job.told.cutting c) (lengths_fit (lent_for s.job.told s.tables w c)) (not-false _ (n Refusal.WrongTray));
          fits = n Refusal.BadReading;
        }

  -- ---- an accepted step

  module _ (b : ℕ) (m : List ℕ) (values : List Float) (kinds : List ℕ) (e : m ≡ own b) (P : Passed (strain b m values kinds)) where
    abbrev R' : ReadingBook
    R' = readings_after R (strain b m values kinds)

    abbrev g : ℕ → Brought
    g = brought_to s.tables own R.values R.kinds

    abbrev g' : ℕ → Brought
    g' = brought_to s.tables own R'.values R'.kinds

    hb : b < blocks k
    hb = ltb-true b (blocks k) P.placed

    not_yet : Memᴰ b R.came → ⊥
    not_yet i = true≢false (sym (is_in_lem R.came i) ∙ P.fresh)

    long_values : length values ≡ volume (block_extents k b)
    long_values = eqb-true _ _ (and_first (eqb (length values) (volume (block_extents k b))) (eqb (length kinds) (volume (block_extents k b))) (and_second (eqb (length m) (cells (block_extents k b))) _ P.lists))

    -- what the other blocks brought stays
    others : (d : ℕ) → Memᴰ d R.came → g d ≡ g' d
    others d i = let n : eqb d b ≡ false = ne_eqb d b (λ q. not_yet (subst (λ (x : ℕ). Memᴰ x R.came) q i)) in rw n refl

    -- what the step adds is what the block takes
    adds_taken : block_adds s b m values kinds ≡ taken_by k g' b
    unfolding block_adds taken_by
    adds_taken =
        ap₂ (λ (z : Told) (x : List ℕ). gathered (cell_adds z.cutting s.tables b x values kinds) (counted_cells z.cutting b)) I.told e
        ∙ block_adds_lem k good b hb s.tables (own b) values kinds
        ∙ ap (block_taken (block_extents k b) (starts k b)) now
      where
        now : brought (own b) (s.tables.numbers Face) (from_of s.tables Face b) values kinds ≡ g' b
        now = rw (eq-eqb b b refl) refl

    step_recorded : Recorded o own v B s R' (with_readings s w b m values kinds)
    unfolding with_readings has_come
    step_recorded =
        record {
          early = λ n. absurd (n P.closed);
          long = length-set w.came b 1 ∙ Q.long;
          ticks = λ i. tick_at w.came b i (omega (arith, hb, Q.long)) ∙ ap (λ (t : Bool). eqb b i || t) (Q.ticks i) ∙ sym (in_last R.came b i);
          sums = ap₂ sums_with Q.sums adds_taken ∙ sym (sums_more k g g' b v.sums R.came others);
          counts = ap₂ counts_with Q.counts adds_taken ∙ sym (counts_more k g g' b v.counts R.came others);
          once = unique_append R.came (b ∷ []) Q.once ((λ i. Memᴰ.not-nil i), tt) (λ z i j. not_yet (subst (λ (x : ℕ). Memᴰ x R.came) (only j) i));
          listed = λ d i. ⊎_elim (Q.listed d) (λ j. subst (λ (x : ℕ). x < blocks k) (sym (only j)) hb) (Memᴰ.append_cases R.came i);
          readings = λ d i hd hi. by_test (eqb d b) (λ t. rw t (fit_good values kinds (not-false _ P.fits) i (omega (arith, long_values, ap (λ (x : ℕ). volume (block_extents k x)) (eqb-true d b t))))) (λ t. rw t (Q.readings d i hd hi));
        }
      where
        only : {z : ℕ} → Memᴰ z (b ∷ []) → z ≡ b
        only j = ⊎_elim (λ q. q) (λ q. absurd (Memᴰ.not-nil q)) (Memᴰ.cases_cons j)

  -- ---- one call of the list

  pub record OneReading (c : StrainCall) (a : StrainAnswer) (u : TotalTables) : Type 0 where
    pub agrees : StrainAgrees own B R c a
    pub after : Recorded o own v B s (turned_readings B R c) u
    -- what was passed, where it is accepted
    pub passed_all : a.refusal ≡ 0 → Passed c

  module _ (c : StrainCall) (a : StrainAnswer) (u : TotalTables) (P : StrainStep s w c a u) (fair : a.refusal ≡ 0 → StrainBrings own c) where
    -- what is accepted is what the book accepts
    taken : strain_refusal s w c ≡ 0 → strain_accepts B R c ≡ true
    unfolding strain_accepts
    taken r =
        let e = fair (P.told ∙ r) in
        let p = passed c r in
        and_both (eqb (strain_book_refusal B R c) 0) (brings_map B c) (eq-eqb _ _ (sym (brought_agrees c e) ∙ r)) (brings_map_lem p.closed c p.placed e)

    taken_back : strain_accepts B R c ≡ true → strain_refusal s w c ≡ 0
    unfolding strain_accepts
    taken_back t = map-agrees c (and_second (eqb (strain_book_refusal B R c) 0) (brings_map B c) t) ∙ eqb-true _ _ (and_first (eqb (strain_book_refusal B R c) 0) (brings_map B c) t)

    answered : a.refusal ≡ 0 → a ≡ strain_book_answer B R c
    answered z = let r = sym P.told ∙ z in answer_is c a u (P.accepted r) (passed c r)
      where
        answer_is : (c : StrainCall) (a : StrainAnswer) (u : TotalTables) → StrainDone s w c a u → Passed c → a ≡ strain_book_answer B R c
        answer_is (strain b m values kinds) a u D p = D.0
        answer_is (total n) a u D p =
            let placed = p.placed in
            let most : n ≤ o.entries Face = omega (arith, leb-true n (s.job.numbered Face) (and_second (ltb 0 n) (leb n (s.job.numbered Face)) placed), I.numbered Face, I.sofar Face, I.room Face) in
            D.0
            ∙ ap (strain_answer 0)
            (totals_are o own ext good lab v Z B s S R w Q p.closed (and_second (same_stage B.stage Closed) (all_come k (is_in R.came)) p.staged) n
            (ltb-true 0 n (and_first (ltb 0 n) (leb n (s.job.numbered Face)) placed)) most)

    turned_yes : strain_accepts B R c ≡ true → turned_readings B R c ≡ readings_after R c
    unfolding turned_readings
    turned_yes t = rw t refl

    turned_no : strain_accepts B R c ≡ false → turned_readings B R c ≡ R
    unfolding turned_readings
    turned_no t = rw t refl

    recorded : Recorded o own v B s (turned_readings B R c) u
    recorded =
        by_test (eqb (strain_refusal s w c) 0)
        (λ t.
        let r = eqb-true _ _ t in
        subst (λ (X : ReadingBook). Recorded o own v B s X u) (sym (turned_yes (taken r))) (done c a u (P.accepted r) (fair (P.told ∙ r)) (passed c r)))
        (λ t.
        let n = eqb-false _ _ t in
        let f : strain_accepts B R c ≡ false = by_test (strain_accepts B R c) (λ y. absurd (n (taken_back y))) (λ y. y) in
        subst (λ (X : ReadingBook). Recorded o own v B s X u) (sym (turned_no f)) (subst (Recorded o own v B s R) (sym (P.declined n).1) Q))
      where
        done : (c : StrainCall) (a : StrainAnswer) (u : TotalTables) → StrainDone s w c a u → StrainBrings own c → Passed c → Recorded o own v B s (readings_after R c) u
        done (strain b m values kinds) a u D e p = subst (Recorded o own v B s (readings_after R (strain b m values kinds))) (sym D.1) (step_recorded b m values kinds e p)
        done (total n) a u D e p = subst (Recorded o own v B s R) (sym D.1) Q

    -- A call of item 1 is what the books say, and its tables hold what the book of readings holds.
    pub one_reading : OneReading c a u
    one_reading =
        record {
          agrees =
              record {
                no_stray = λ e z. book_stray c (sym (P.told ∙ brought_agrees c e) ∙ z);
                brought = λ e. P.told ∙ brought_agrees c e;
                refused = λ e. P.told ∙ map-agrees c e;
                early = λ n. P.told ∙ early_agrees c n;
                early_only = λ h l. P.told ∙ early_only c (omega (arith, h, P.told)) (omega (arith, l, P.told));
                judged = ((λ z. taken (sym P.told ∙ z)), (λ t. P.told ∙ taken_back t));
                answered = answered;
              };
          after = recorded;
          passed_all = λ z. passed c (sym P.told ∙ z);
        }
