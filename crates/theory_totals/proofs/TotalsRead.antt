-- The totals that a list of calls reads are those of the uncut volume, for any order of blocks.
-- Assumes nothing.
use mathlib.Core.Path.{◌≡◌, refl, sym, ap, ap₂, ◌∙◌, subst}
use mathlib.Core.Bool.{true, false}
use mathlib.Core.Logic.{◌≢◌, ⊎_elim}
use mathlib.Core.List.Memᴰ
use mathlib.Core.List.{List, [], ◌∷◌, ◌++◌, map, Memᴰ}
use Prim.Native.Nat.{ℕ, ◌^◌, ◌≤◌, ◌<◌}
use native.Mathlib.Omega.{arith}
use lib.Dec.{eqb, leb, ltb}
use lib.ListN.{get_or, length}
use lib.IntN.{ℤ, nat_abs}
use lib.Ieee.{Float}
use borrow.Author.Tests.{eqb-true, eqb-false, leb-true, ltb-true}
use Rattle.lists.specs.Lists.{is_in}
use Rattle.lists.proofs.Cases.{by_test, and_first, and_second, picked}
use Rattle.lists.proofs.Lists.{keep_out}
use Rattle.cells.specs.Box.{place}
use Rattle.cells.specs.declared.Triple.{Triple}
use Rattle.cells.specs.Extents.{off_size}
use Rattle.cells.specs.Grid.{sides, cells, order, upper_neighbours, voxel}
use Rattle.cells.specs.Row.{row}
use Rattle.labels.specs.Number.{labels}
use Rattle.labels.specs.Components.{component, of_order}
use Rattle.labels.proofs.ComponentLaws.{of_order_out}
use Rattle.cutting.specs.Nodes.{part}
use Rattle.cutting.specs.Cutting.{Cutting, blocks, good_cut, block_extents}
use Rattle.joiner.specs.Book.{Book, begun, turned, uncut}
use Rattle.joiner.specs.Job.{Closed, Face, State, Told, same_stage}
use Rattle.joiner.specs.Stages.{codes_of, local, lowest_block}
use Rattle.joiner.specs.Statement.{Labelling}
use Rattle.joiner.proofs.Codes.{lowest_has}
use Rattle.joiner.proofs.Final.{part_is, uncut_is}
use Rattle.joiner.proofs.Simulation.{Sim, one_call}
use Rattle.joiner.proofs.Statement3.{begun_sim, opened_passed}
use Rattle.extended.specs.Extended.{base, added, LongRun}
use Rattle.strains.specs.Units.{is_units, whole_units, float_of}
use Rattle.strains.specs.Readings.{units_sum, of_kind}
use Rattle.strains.specs.declared.Reading.{Reading}
use Rattle.strains.proofs.Sums.{float_none}
use Rattle.strains.proofs.Whole.{float_units, units_float}
use Rattle.totals.specs.Totals.{reading_at}
use Rattle.totals.specs.declared.Totals.{Totals}
use Rattle.strain_calls.specs.Tables.{TotalTables}
use Rattle.strain_calls.specs.Adding.{gathered}
use Rattle.strain_calls.specs.Calls.{StrainCall, strain, total, StrainAnswer, no_side, all_come}
use Rattle.strain_calls.specs.Outcomes.{StrainStep}
use Rattle.theory_totals.specs.Book.{ReadingBook, no_readings, strain_accepts, readings_after, turned_readings, on_side, side_readings, side_totals, face_totals, reading_from, book_totals}
use Rattle.theory_totals.specs.Statement.{StrainEvent, LongFair, BringsLists, TotalRead, uncut_from, IsUnits, SumsExact, TotalsExact, counted_on, BordersOutside, TotalsWhole, OrderFree}
use Rattle.theory_totals.proofs.SlotLaws.{kinds_all}
use Rattle.theory_totals.proofs.SideLaws.{is_on, on_nonzero}
use Rattle.theory_totals.proofs.SideCounts.{lower_whole, higher_whole, higher_none}
use Rattle.theory_totals.proofs.SideReadings.{map-alike}
use Rattle.theory_totals.proofs.Recorded.{Emptied, opened_empty, Recorded, each_come, side_size}
use Rattle.theory_totals.proofs.StrainSteps.{Passed, one_reading}
use Rattle.theory_totals.proofs.StrainStatement.{base_recorded, begun_recorded}

-- what is gathered goes by the entries of the list
gathered_same : (f g : ℕ → List Reading) (l : List ℕ) → ((t : ℕ) → Memᴰ t l → f t ≡ g t) → gathered f l ≡ gathered g l
unfolding gathered
gathered_same f g [] h = refl
gathered_same f g (t ∷ l) h = ap₂ (λ (a b : List Reading). a ++ b) (h t (Memᴰ.head refl)) (gathered_same f g l (λ q m. h q (Memᴰ.tail m)))

-- readings that are the same at the voxels of each face cell, the outside left out, give the same totals
module _ (e : Triple) (m : List ℕ) (f g : ℕ → ℕ → Reading) (n : ℕ) (h : (t : ℕ) → t < cells e → order e t ≡ 2 → (q : ℕ) → Memᴰ q (upper_neighbours e t) → get_or m q 0 ≢ 0 → f t q ≡ g t q) where
  side_same : (side : ℕ) → side_readings e m f n side ≡ side_readings e m g n side
  unfolding side_readings component on_side
  side_same side =
      gathered_same (λ t. map (f t) (on_side e m side t)) (λ t. map (g t) (on_side e m side t)) (component e m 2 n)
      (λ t i.
      let c = of_order_out e 2 (keep_out (λ p. eqb (get_or m p 0) n) (of_order e 2) i).0 in
      map-alike (f t) (g t) (on_side e m side t)
      (λ q j.
      let w = keep_out (λ p. is_on (get_or (row e m t) side 0) (get_or m p 0)) (upper_neighbours e t) j in
      h t c.0 c.1 q w.0 (on_nonzero (get_or (row e m t) side 0) (get_or m q 0) w.1)))

  pub face_same : face_totals e m f n ≡ face_totals e m g n
  unfolding face_totals
  face_same = ap₂ (λ (x y : List Reading). record { lower = side_totals x; higher = side_totals y }) (side_same 0) (side_same 1)

module _ (o : Told) (own : ℕ → List ℕ) (values : ℕ → List Float) (kinds : ℕ → List ℕ) where
  -- What is shown of totals T that are read for face n.
  record ReadFor (n : ℕ) (T : Totals) : Type 0 where
    exact : T ≡ face_totals o.cutting.extents (uncut_from o.cutting own) (reading_from o.cutting values kinds) n
    small : (side : ℕ) → side ≤ 1 → nat_abs (units_sum (side_readings o.cutting.extents (uncut_from o.cutting own) (reading_from o.cutting values kinds) n side)) < 2 ^ 53
    some : 0 < n
    parts : (b : ℕ) → b < blocks o.cutting → own b ≡ part o.cutting (codes_of o.cutting own) b

  -- .. by a call of the list
  abbrev Reads : StrainEvent → Type 0
  Reads (base e) = Unit {0}
  Reads (added (strain b m vs ks) a u) = Unit {0}
  Reads (added (total n) a u) = a.refusal ≡ 0 → ReadFor n a.totals

  -- the book of readings has the lists of each block that has come
  abbrev Holds : ReadingBook → Type 0
  Holds R = (b : ℕ) → Memᴰ b R.came → (R.values b ≡ values b) × (R.kinds b ≡ kinds b)

  abbrev Lists : StrainCall → Type 0
  Lists (strain b m vs ks) = (vs ≡ values b) × (ks ≡ kinds b)
  Lists (total n) = Unit {0}

  holds_after : (R : ReadingBook) (c : StrainCall) → Holds R → Lists c → Holds (readings_after R c)
  holds_after R (strain b m vs ks) H l d i =
      by_test (eqb d b)
      (λ t. let q : d ≡ b = eqb-true d b t in rw t (l.0 ∙ ap values (sym q), l.1 ∙ ap kinds (sym q)))
      (λ t. rw t (H d (⊎_elim (λ j. j) (λ j. absurd (eqb-false d b t (only j))) (Memᴰ.append_cases R.came i))))
    where
      only : Memᴰ d (b ∷ []) → d ≡ b
      only j = ⊎_elim (λ q. q) (λ q. absurd (Memᴰ.not-nil q)) (Memᴰ.cases_cons j)
  holds_after R (total n) H l d i = H d i

  holds_turned : (B : Book) (R : ReadingBook) (c : StrainCall) → Holds R → (strain_accepts B R c ≡ true → Lists c) → Holds (turned_readings B R c)
  unfolding turned_readings
  holds_turned B R c H l = picked Holds (strain_accepts B R c) (readings_after R c) R (λ t. holds_after R c H (l t)) (λ t. H)

  module _ (ext : off_size 1024 o.cutting.extents ≡ false) (good : good_cut o.cutting ≡ true)
      (lab : (b : ℕ) → b < blocks o.cutting → Labelling (block_extents o.cutting b) (own b)) (v : TotalTables) (Z : Emptied o v) where
    -- a total that is read, by the books
    module _ (B : Book) (s : State) (S : Sim o own ext good lab B s) (R : ReadingBook) (w : TotalTables) (Q : Recorded o own v B s R w) (H : Holds R) (n : ℕ) (p : Passed o own ext good lab v Z B s S R w Q (total n)) where
      abbrev k : Cutting
      k = o.cutting

      come_all : all_come k (is_in R.came) ≡ true
      come_all = and_second (same_stage B.stage Closed) (all_come k (is_in R.came)) p.staged

      numbered_some : 0 < n
      numbered_some = ltb-true 0 n (and_first (ltb 0 n) (leb n (s.job.numbered Face)) p.placed)

      most : n ≤ o.entries Face
      most = omega (arith, leb-true n (s.job.numbered Face) (and_second (ltb 0 n) (leb n (s.job.numbered Face)) p.placed), S.inv.numbered Face, S.inv.sofar Face, S.inv.room Face)

      -- the uncut volume is that of the blocks' maps
      same_map : uncut B ≡ uncut_from k own
      same_map = uncut_is o own good lab B s S.inv (omega (arith, p.closed))

      -- all lists are those that the blocks brought
      same_reading : (t : ℕ) → t < cells k.extents → order k.extents t ≡ 2 → (q : ℕ) → Memᴰ q (upper_neighbours k.extents t) → get_or (uncut_from k own) q 0 ≢ 0 → reading_from k R.values R.kinds t q ≡ reading_from k values kinds t q
      unfolding reading_from
      same_reading t ht ot q i d =
          let b : ℕ = lowest_block k (place (sides k.extents) t) in
          let l = H b (each_come o own ext good lab v Z B s S R w Q p.closed come_all b (lowest_has k good t ht).0) in
          ap₂ (λ (x : List Float) (y : List ℕ). reading_at x y (voxel (block_extents k b) (local k b (place (sides k.extents) q)))) l.0 l.1

      book_read : ReadFor n (book_totals B R n)
      unfolding book_totals
      book_read =
          record {
            exact = ap₂ (λ (z : Told) (m : List ℕ). face_totals z.cutting.extents m (reading_from z.cutting R.values R.kinds) n) S.inv.btold same_map
                ∙ face_same k.extents (uncut_from k own) (reading_from k R.values R.kinds) (reading_from k values kinds) n same_reading;
            small = λ side hs.
                subst (λ (l : List Reading). nat_abs (units_sum l) < 2 ^ 53)
                (ap (λ (m : List ℕ). side_readings k.extents m (reading_from k R.values R.kinds) n side) same_map
                ∙ side_same k.extents (uncut_from k own) (reading_from k R.values R.kinds) (reading_from k values kinds) n same_reading side)
                (side_size o own ext good lab v Z B s S R w Q p.closed come_all n numbered_some most side hs);
            some = numbered_some;
            parts = part_is o own good lab B s S.inv (omega (arith, p.closed));
          }

    -- every total that a list of calls reads
    reads_all : (B : Book) (s : State) (R : ReadingBook) (w : TotalTables) (es : List StrainEvent) → Sim o own ext good lab B s → Recorded o own v B s R w → Holds R → LongRun StrainStep s w es → LongFair own es → BringsLists values kinds es
        → {x : StrainEvent} → Memᴰ x es → Reads x
    reads_all B s R w [] S Q H L F G i = absurd (Memᴰ.not-nil i)
    reads_all B s R w (base e ∷ es) S Q H (LongRun.next P L) F G {x} i =
        let K = one_call o own ext good lab B s S e P F.0 in
        ⊎_elim (λ q. subst Reads (sym q) tt) (λ j. reads_all (turned B e.call) e.after R w es K.after (base_recorded o own ext good lab v Z B s S e P F.0 R w Q) H L F.1 G j) (Memᴰ.cases_cons i)
    reads_all B s R w (added (strain b m vs ks) a u ∷ es) S Q H (LongRun.next_added P L) F G {x} i =
        let K = one_reading o own ext good lab v Z B s S R w Q (strain b m vs ks) a u P F.0 in
        ⊎_elim (λ q. subst Reads (sym q) tt)
        (λ j. reads_all B s (turned_readings B R (strain b m vs ks)) u es S K.after (holds_turned B R (strain b m vs ks) H (λ t. G.0 (K.agrees.judged.1 t))) L F.1 G.1 j) (Memᴰ.cases_cons i)
    reads_all B s R w (added (total n) a u ∷ es) S Q H (LongRun.next_added P L) F G {x} i =
        let K = one_reading o own ext good lab v Z B s S R w Q (total n) a u P F.0 in
        ⊎_elim (λ q. subst Reads (sym q) (λ z. subst (ReadFor n) (sym (ap (λ (y : StrainAnswer). y.totals) (K.agrees.answered z))) (book_read B s S R w Q H n (K.passed_all z))))
        (λ j. reads_all B s (turned_readings B R (total n)) u es S K.after (holds_turned B R (total n) H (λ t. tt)) L F.1 G j) (Memᴰ.cases_cons i)

-- what is read after an opening
read_of : (o : Told) (own : ℕ → List ℕ) (values : ℕ → List Float) (kinds : ℕ → List ℕ) (n : ℕ) (T : Totals) → TotalRead o own values kinds n T → ReadFor o own values kinds n T
unfolding no_readings
read_of o own values kinds n T X =
    let p = opened_passed o X.lent X.opened.opened.accepted in
    let Z : Emptied o X.after = opened_empty o X.lent X.before X.begin X.after X.opened in
    reads_all o own values kinds p.0 p.1 X.labelled X.after Z (begun o) X.begin no_readings X.after X.calls (begun_sim o X.lent X.begin own X.opened.opened X.labelled)
    (begun_recorded o own X.after X.begin Z) (λ b m. absurd (Memᴰ.not-nil m)) X.run X.fair X.lists X.read refl

-- "Sums are then exact, and are to equal the sum over whole 1,024ths for any order of blocks": totals that are read are those of the uncut face.
pub totals_exact : TotalsExact
totals_exact o own values kinds n T X = (read_of o own values kinds n T X).exact

-- a sum below the bound is so many 1,024ths exactly
sum_units : (z : ℤ) (x : Float) → nat_abs z < 2 ^ 53 → x ≡ float_of z → IsUnits x z
sum_units z x h e = (
  ap (is_units 9007199254740992) e ∙ float_units z 9007199254740992 h (omega (arith, h)),
  ap whole_units e ∙ units_float z h,
)

-- "Sums are then exact."
pub sums_exact : SumsExact
unfolding face_totals side_totals
sums_exact o own values kinds n T X =
    let r = read_of o own values kinds n T X in (
      sum_units _ T.lower.sum (r.small 0 (omega arith)) (ap (λ (t : Totals). t.lower.sum) r.exact),
      sum_units _ T.higher.sum (r.small 1 (omega arith)) (ap (λ (t : Totals). t.higher.sum) r.exact),
    )

-- how many readings each side of a face counts
counted_all : (e : Triple) (m : List ℕ) (f : ℕ → ℕ → Reading) (n : ℕ)
    → (counted_on (face_totals e m f n).lower ≡ length (side_readings e m f n 0)) × (counted_on (face_totals e m f n).higher ≡ length (side_readings e m f n 1))
unfolding face_totals side_totals
counted_all e m f n = (kinds_all (side_readings e m f n 0), kinds_all (side_readings e m f n 1))

-- a side without readings has zero sums and counts
no_readings_lem : side_totals [] ≡ no_side
unfolding side_totals units_sum of_kind
no_readings_lem = rw float_none refl

-- "Strains, clipped and missing together are twice the face's cells", and at the outside "one reading per cell".
pub totals_whole : TotalsWhole
unfolding face_totals
totals_whole o own values kinds n T X = record { lower = low; higher = high; twice = λ d. omega (arith, low, high d); nothing = none; one_per_cell = λ z. omega (arith, low, ap counted_on (none z)) }
  where
    e : Triple
    e = o.cutting.extents

    codes : List ℕ
    codes = codes_of o.cutting own

    f : ℕ → ℕ → Reading
    f = reading_from o.cutting values kinds

    r : ReadFor o own values kinds n T
    r = read_of o own values kinds n T X

    low : counted_on T.lower ≡ length (component e (labels e codes) 2 n)
    low = ap (λ (t : Totals). counted_on t.lower) r.exact ∙ (counted_all e (labels e codes) f n).0 ∙ lower_whole e codes f n r.some

    high : (BordersOutside e (labels e codes) n → ⊥) → counted_on T.higher ≡ length (component e (labels e codes) 2 n)
    high d = ap (λ (t : Totals). counted_on t.higher) r.exact ∙ (counted_all e (labels e codes) f n).1 ∙ higher_whole e codes f n r.some d

    none : BordersOutside e (labels e codes) n → T.higher ≡ no_side
    none z = ap (λ (t : Totals). t.higher) r.exact ∙ ap side_totals (higher_none e codes f n r.some z) ∙ no_readings_lem

-- the blocks' maps are parts of the uncut volume
pub parts_read : (o : Told) (own : ℕ → List ℕ) (values : ℕ → List Float) (kinds : ℕ → List ℕ) (n : ℕ) (T : Totals) → TotalRead o own values kinds n T
    → (b : ℕ) → b < blocks o.cutting → own b ≡ part o.cutting (codes_of o.cutting own) b
parts_read o own values kinds n T X = (read_of o own values kinds n T X).parts

-- ".. for any order of blocks": two lists of calls with the same readings give the same totals.
pub order_free : OrderFree
order_free o own values kinds n T T' X Y = totals_exact o own values kinds n T X ∙ sym (totals_exact o own values kinds n T' Y)
