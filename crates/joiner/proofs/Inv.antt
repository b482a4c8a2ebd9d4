-- What holds between the day book and the job with its tables after each call of a list, and the refusals that follow from it.
-- Assumes nothing.
use mathlib.Core.Bool.{Bool, ◌&&◌, cond, false, not, true}
use mathlib.Core.List.Memᴰ
use mathlib.Core.List.{List, Memᴰ}
use mathlib.Core.Logic.{◌≢◌, ◌⊎◌}
use mathlib.Core.Path.{◌∙◌, ◌≡◌, ap, ap₂, refl, subst, sym}
use Prim.Native.Nat.{◌%◌, ◌*◌, ◌+◌, ◌/◌, ◌<◌, ◌≤◌, ℕ}
use native.Mathlib.Omega.{arith}
use lib.Dec.{eqb, leb, ltb}
use lib.ListN.{get_or}
use borrow.Author.Tests.{eqb-true, le-leb, ltb-true, not-false}
use Rattle.lists.specs.Lists.{consecutive, is_in, some_of}
use Rattle.closure.specs.Joined.{edge}
use Rattle.refusals.specs.declared.Refusal.{Refusal}
use Rattle.refusals.specs.Refusals.{number, stands_in}
use Rattle.cells.specs.declared.Triple.{Triple}
use Rattle.cells.specs.Extents.{off_size}
use Rattle.cells.specs.Row.{same_row}
use Rattle.labels.specs.Components.{component_row, first_cell, largest}
use Rattle.cutting.specs.Cutting.{Cutting, block_extents, blocks, embed, good_cut, seam}
use Rattle.joiner.specs.Book.{Book, book_adds, book_declines, book_early, early_cases, book_refusal, brings_own, uncut_count}
use Rattle.joiner.specs.Calls.{Call, cross, differs, enrol, full, join, layers_differ, look, maps_fit, overfull, placed, point, reading, repeated, stage_of}
use Rattle.joiner.specs.Declines.{adds, all_links_stand, counted, curves_stand, cut_for, declines, last_crossing, lent_to, links_stand, look_stands, map_stands, refusal, rows_stand, standing, stands_for, stray, tallies_fit, tally_fits}
use Rattle.joiner.specs.Outcomes.{AtCrossing, AtSeam, enrolled_row, shifted}
use Rattle.joiner.specs.Job.{Closed, Crossing, Curve, Enrol, Face, Kind, Point, Points, Seam, Stage, State, Told, count_of, first_at, lengths_fit, from_of, node, order_of, same_stage, stage_number, ticked, width}
use Rattle.joiner.specs.Stages.{crossing_step, enrol_step, has_cell, local, point_step, seam_step, shared, steps_of}
use Rattle.joiner.specs.Statement.{Labelling}
use Rattle.refusals.proofs.RefusalLaws.{given_none}
use Rattle.lists.proofs.Cases.{and_both, and_first, and_second, picked}
use Rattle.lists.proofs.Lists.{consecutive_in, consecutive_out}
use Rattle.lists.proofs.Tests.{all_in}
use Rattle.cells.proofs.RowLaws.{same_row_lem}
use Rattle.joiner.proofs.Ladder.{Alongside, Bookish, EarlyOnly, given_agree, given_book, given_early, given_early_only, given_stray}
use Rattle.joiner.proofs.Linking.{Enrolled, all_links, block_links}
use Rattle.joiner.proofs.Progress.{Progress}
use Rattle.joiner.proofs.Roots.{Connected}
use Rattle.joiner.proofs.RowBounds.{component_row_most}
use Rattle.joiner.proofs.Shared.{seam_listed}
use Rattle.joiner.proofs.Sizes.{Sizes, lent_fit}

-- ---- the invariant

module _ (o : Told) (own : ℕ → List ℕ) where
  abbrev K : Cutting
  K = o.cutting

  -- block b is enrolled
  abbrev pub In : Book → ℕ → Type 0
  In B b = Memᴰ (enrol_step b) B.done

  -- place x is number m of an enrolled block
  pub record Numbered (B : Book) (s : State) (κ : Kind) (x : ℕ) : Type 0 where
    pub b : ℕ
    pub m : ℕ
    pub listed : b < blocks K
    pub in_book : In B b
    pub positive : 0 < m
    pub most : m ≤ largest (block_extents K b) (own b) (order_of κ)
    pub is : x ≡ node s.tables κ b m

  -- the edges of the seams and crossings done
  pub record SeamEdge (B : Book) (s : State) (κ : Kind) (x y : ℕ) : Type 0 where
    pub b : ℕ
    pub c : ℕ
    pub joint : seam K b c ≡ true
    pub ticked_in_lem : Memᴰ (seam_step K (edge b c)) B.done
    pub at : AtSeam K s.tables κ b c (own b) (own c) x y

  pub record CrossEdge (B : Book) (s : State) (x y : ℕ) : Type 0 where
    pub b : ℕ
    pub listed : b < blocks K
    pub ticked_in_lem : Memᴰ (crossing_step b) B.done
    pub at : AtCrossing K s.tables b (own b) x y

  abbrev pub EdgeDone : Book → State → Kind → ℕ → ℕ → Type 0
  EdgeDone B s Face x y = SeamEdge B s Face x y
  EdgeDone B s Curve x y = SeamEdge B s Curve x y ⊎ CrossEdge B s x y
  EdgeDone B s Point x y = ⊥

  -- what the tables hold of enrolled faces, or curves
  pub record Kept (B : Book) (s : State) (κ : Kind) : Type 0 where
    pub from_in : (b : ℕ) → b < blocks K → In B b → from_of s.tables κ b + largest (block_extents K b) (own b) (order_of κ) ≤ s.job.sofar κ
    pub cover : (x : ℕ) → x < s.job.sofar κ → Numbered B s κ x
    pub seen : (b m : ℕ) → b < blocks K → In B b → 0 < m → m ≤ largest (block_extents K b) (own b) (order_of κ)
        → first_at s.tables κ (node s.tables κ b m) ≡ embed K b (first_cell (block_extents K b) (own b) (order_of κ) m)
    pub rows : (b m i : ℕ) → b < blocks K → In B b → 0 < m → m ≤ largest (block_extents K b) (own b) (order_of κ) → i < width κ
        → get_or (s.tables.rows κ) (width κ * node s.tables κ b m + i) 0 ≡ enrolled_row K (from_of s.tables Face b) b (own b) κ m i
    pub linked : Connected (s.tables.links κ) (s.job.sofar κ) (EdgeDone B s κ)

  pub record Inv (B : Book) (s : State) : Type 0 where
    pub told : s.job.told ≡ o
    pub btold : B.told ≡ o
    pub stage : s.job.stage ≡ B.stage
    pub ticks : (i : ℕ) → ticked s.tables i ≡ is_in B.done i
    pub sizes : Sizes o s.tables
    pub sofar : (κ : Kind) → s.job.sofar κ ≡ B.sofar κ
    pub room : (κ : Kind) → B.sofar κ ≤ o.entries κ
    pub numbered : (κ : Kind) → s.job.numbered κ ≤ s.job.sofar κ
    pub progress : Progress K B.done B.stage
    pub maps : (b : ℕ) → b < blocks K → In B b → B.maps b ≡ own b
    pub counts : (κ : Kind) (b : ℕ) → b < blocks K → In B b → count_of s.tables κ b ≡ largest (block_extents K b) (own b) (order_of κ)
    pub faces : Kept B s Face
    pub curves : Kept B s Curve
    pub layers : (b c : ℕ) → seam K b c ≡ true → Memᴰ (seam_step K (edge b c)) B.done → some_of (differs (block_extents K b) (own b) (own c)) (shared K b c) ≡ false

-- ---- the refusals

module _ (o : Told) (own : ℕ → List ℕ) (ext : off_size 1024 o.cutting.extents ≡ false) (good : good_cut o.cutting ≡ true)
    (lab : (b : ℕ) → b < blocks o.cutting → Labelling (block_extents o.cutting b) (own b)) (B : Book) (s : State) (I : Inv o own B s) where
  tally_in : (κ : Kind) → s.job.sofar κ ≤ s.job.told.entries κ
  tally_in κ = omega (arith, I.sofar κ, I.room κ, ap (λ (z : Told). z.entries κ) I.told)

  tally_fits_lem : (κ : Kind) → tally_fits s.job κ ≡ true
  unfolding tally_fits
  tally_fits_lem κ =
      and_both (leb (s.job.sofar κ) (s.job.told.entries κ)) (leb (s.job.numbered κ) (s.job.told.entries κ))
      (le-leb _ _ (tally_in κ)) (le-leb (s.job.numbered κ) (s.job.told.entries κ) (omega (arith, I.numbered κ, tally_in κ)))

  -- the tallies are within the tables
  pub tallies_fit_lem : tallies_fit s.job ≡ true
  unfolding tallies_fit
  tallies_fit_lem =
      and_both (tally_fits s.job Face) (tally_fits s.job Curve && tally_fits s.job Point) (tally_fits_lem Face)
      (and_both (tally_fits s.job Curve) (tally_fits s.job Point) (tally_fits_lem Curve) (tally_fits_lem Point))

  is_counted : (b : ℕ) → b < blocks o.cutting → In o own B b → (κ : Kind) → counted s.tables (block_extents o.cutting b) b (own b) κ ≡ true
  unfolding counted
  is_counted b hb i κ = le-leb (largest (block_extents o.cutting b) (own b) (order_of κ)) (count_of s.tables κ b) (omega (arith, I.counts κ b hb i))

  -- the components of an enrolled block are enrolled
  pub block_in : (b : ℕ) → b < blocks o.cutting → In o own B b → Enrolled s b Face × Enrolled s b Curve
  block_in b hb i = (omega (arith, I.counts Face b hb i, I.faces.from_in b hb i), omega (arith, I.counts Curve b hb i, I.curves.from_in b hb i))

  is_standing : (b : ℕ) → b < blocks o.cutting → In o own B b → (standing s b Face ≡ true) × (standing s b Curve ≡ true)
  unfolding standing
  is_standing b hb i = let w = block_in b hb i in (
    le-leb (from_of s.tables Face b + count_of s.tables Face b) (s.job.told.entries Face) (omega (arith, w.0, tally_in Face)),
    le-leb (from_of s.tables Curve b + count_of s.tables Curve b) (s.job.told.entries Curve) (omega (arith, w.1, tally_in Curve)),
  )

  map-stands : (b : ℕ) → b < blocks o.cutting → In o own B b → map_stands s (block_extents o.cutting b) b (own b) ≡ true
  unfolding map_stands
  map-stands b hb i =
      and_both _ _ (is_counted b hb i Face)
      (and_both _ _ (is_counted b hb i Curve)
      (and_both _ _ (is_counted b hb i Point)
      (and_both (standing s b Face) (standing s b Curve) (is_standing b hb i).0 (is_standing b hb i).1)))

  -- the faces in the rows of curves are enrolled
  rows_in : (i : ℕ) → i < 4 * s.job.sofar Curve → get_or (s.tables.rows Curve) i 0 ≤ s.job.sofar Face
  unfolding enrolled_row shifted
  rows_in i h =
      let w : Numbered o own B s Curve (i / 4) = I.curves.cover (i / 4) (omega arith) in
      let e : i ≡ 4 * node s.tables Curve w.b w.m + i % 4 = omega (arith, w.is) in
      let f : ℕ = from_of s.tables Face w.b in
      let x : ℕ = get_or (component_row (block_extents o.cutting w.b) (own w.b) 1 w.m) (i % 4) 0 in
      let v : get_or (s.tables.rows Curve) i 0 ≡ cond (eqb x 0) 0 (f + x) =
      ap (λ (j : ℕ). get_or (s.tables.rows Curve) j 0) e ∙ I.curves.rows w.b w.m (i % 4) w.listed w.in_book w.positive w.most (omega arith) in
      let u : x ≤ largest (block_extents o.cutting w.b) (own w.b) 2 = component_row_most (block_extents o.cutting w.b) (own w.b) 1 w.m (i % 4) in
      let g : f + largest (block_extents o.cutting w.b) (own w.b) 2 ≤ s.job.sofar Face = I.faces.from_in w.b w.listed w.in_book in
      subst (λ (y : ℕ). y ≤ s.job.sofar Face) (sym v) (picked (λ (y : ℕ). y ≤ s.job.sofar Face) (eqb x 0) 0 (f + x) (λ q. omega arith) (λ q. omega (arith, u, g)))

  rows_stand_lem : rows_stand s ≡ true
  unfolding rows_stand
  rows_stand_lem =
      all_in (λ i. leb (get_or (s.tables.rows Curve) i 0) (s.job.told.entries Face)) (consecutive 0 (4 * s.job.sofar Curve))
      (λ i m. le-leb (get_or (s.tables.rows Curve) i 0) (s.job.told.entries Face) (omega (arith, rows_in i (omega (arith, consecutive_out 0 (4 * s.job.sofar Curve) m)), tally_in Face)))

  -- a stage after Enrol has all blocks enrolled
  pub enrolled : stage_number Enrol < stage_number B.stage → (b : ℕ) → b < blocks o.cutting → In o own B b
  enrolled h b hb = I.progress.all_done Enrol h (enrol_step b) (unfold steps_of in Memᴰ.map enrol_step (consecutive_in 0 (blocks o.cutting) (omega arith) (omega (arith, hb))))

  repeated_same : (k : Cutting) (f g : ℕ → Bool) → ((i : ℕ) → f i ≡ g i) → (c : Call) → repeated k f c ≡ repeated k g c
  repeated_same k f g h (enrol b m) = h (enrol_step b)
  repeated_same k f g h (join b c m n) = h (seam_step k (edge b c))
  repeated_same k f g h (cross b m) = h (crossing_step b)
  repeated_same k f g h (point b m) = h (point_step b)
  repeated_same k f g h (look b m c) = refl
  repeated_same k f g h (reading κ n) = refl

  full_same : (e f g f' g' : Kind → ℕ) → ((κ : Kind) → f κ ≡ f' κ) → ((κ : Kind) → g κ ≡ g' κ) → full e f g ≡ full e f' g'
  unfolding full overfull
  full_same e f g f' g' h k = rw (h Face, h Curve, h Point, k Face, k Curve, k Point) refl

  -- a test beside one that holds
  pub and_so : (t u : Bool) → u ≡ true → (t && u) ≡ t
  and_so true u e = e
  and_so false u e = refl

  cut_is : (c : Call) → cut_for s c ≡ true
  cut_is (enrol b m) = ap (λ (z : Told). good_cut z.cutting) I.told ∙ good
  cut_is (join b c m n) = ap (λ (z : Told). good_cut z.cutting) I.told ∙ good
  cut_is (cross b m) = ap (λ (z : Told). good_cut z.cutting) I.told ∙ good
  cut_is (point b m) = ap (λ (z : Told). good_cut z.cutting) I.told ∙ good
  cut_is (look b m c) = ap (λ (z : Told). good_cut z.cutting) I.told ∙ good
  cut_is (reading κ n) = refl

  same_of : (c : Call) → not (same_stage s.job.stage (stage_of c)) ≡ false → stage_number B.stage ≡ stage_number (stage_of c)
  unfolding same_stage
  same_of c t = ap stage_number (sym I.stage) ∙ eqb-true _ _ (not-false _ t)

  module _ (c : Call) (places : stage_number B.stage ≡ stage_number (stage_of c) → placed o.cutting s.job.numbered c ≡ placed o.cutting (uncut_count B) c) where
    early_parts : not (same_stage s.job.stage (stage_of c)) ≡ false
        → (not (placed s.job.told.cutting s.job.numbered c) ≡ not (placed B.told.cutting (uncut_count B) c))
        × (repeated s.job.told.cutting (ticked s.tables) c ≡ repeated B.told.cutting (is_in B.done) c)
        × (not (maps_fit s.job.told.cutting c && lengths_fit (lent_to s.job.told s.tables c)) ≡ not (maps_fit B.told.cutting c))
    early_parts t = (
      ap not (ap (λ (z : Told). placed z.cutting s.job.numbered c) I.told ∙ places (same_of c t) ∙ ap (λ (z : Told). placed z.cutting (uncut_count B) c) (sym I.btold)),
      ap (λ (z : Told). repeated z.cutting (ticked s.tables) c) (I.told ∙ sym I.btold) ∙ repeated_same B.told.cutting (ticked s.tables) (is_in B.done) I.ticks c,
      ap not (and_so (maps_fit s.job.told.cutting c) (lengths_fit (lent_to s.job.told s.tables c)) (ap (λ (z : Told). lengths_fit (lent_to z s.tables c)) I.told ∙ lent_fit o s.tables I.sizes c) ∙ ap (λ (z : Told). maps_fit z.cutting c) (I.told ∙ sym I.btold)),
    )

    alongside : Alongside (stands_in (declines s c)) (stands_in (book_declines B c))
    unfolding declines book_declines stands_in number
    alongside =
        record {
          f_size = ap (λ (z : Told). off_size 1024 z.cutting.extents) I.told ∙ ext;
          f_cut = ap not (cut_is c);
          f_blank = refl;
          f_record = refl;
          stage = ap (λ (z : Stage). not (same_stage z (stage_of c))) I.stage;
          early = early_parts;
        }

    bookish : Bookish (stands_in (book_declines B c))
    unfolding book_declines stands_in number
    bookish = record { g_size = refl; g_cut = refl; g_blank = refl; g_stray = refl; g_record = refl }

    earlier : EarlyOnly (stands_in (book_declines B c)) (stands_in (early_cases B c))
    unfolding book_declines stands_in number
    earlier =
        record { h_size = refl; h_cut = refl; h_stage = refl; h_place = refl; h_done = refl; h_tray = refl; h_blank = refl; h_stray = refl; h_layers = refl; h_full = refl; h_record = refl; h_reading = refl }

    -- the book gives what it gives of 3 to 6, where it gives one of them, and never 8
    pub book_early_lem : book_early B c ≢ 0 → book_refusal B c ≡ book_early B c
    unfolding book_refusal book_early
    book_early_lem = given_book (stands_in (book_declines B c)) (stands_in (early_cases B c)) bookish earlier

    pub book_stray : book_refusal B c ≢ 8
    unfolding book_refusal
    book_stray = given_stray (stands_in (book_declines B c)) bookish

    -- what the book gives none of 3 to 6 for
    pub book_passed : book_early B c ≡ 0 → (stage_number B.stage ≡ stage_number (stage_of c)) × (placed B.told.cutting (uncut_count B) c ≡ true)
    unfolding book_early stands_in number same_stage
    book_passed z =
        let n : (r : Refusal) → stands_in (early_cases B c) r ≡ false = (given_none (stands_in (early_cases B c))).0 z in
        (eqb-true _ _ (not-false _ (n Refusal.WrongStage)), not-false _ (n Refusal.NoSuchPlace))

    -- with any map, 3 to 6 go by the book, and nothing else up to 6 is given
    pub early_agrees : book_early B c ≢ 0 → refusal s c ≡ book_early B c
    unfolding refusal book_early
    early_agrees = given_early (stands_in (declines s c)) (stands_in (book_declines B c)) alongside (stands_in (early_cases B c)) earlier

    pub early_only : 0 < refusal s c → refusal s c ≤ 6 → refusal s c ≡ book_early B c
    unfolding refusal book_early
    early_only = given_early_only (stands_in (declines s c)) (stands_in (book_declines B c)) alongside (stands_in (early_cases B c)) earlier

    -- with its blocks' maps, all go by the book
    agrees : (stage_number B.stage ≡ stage_number (stage_of c) → placed o.cutting s.job.numbered c ≡ true → (stands_for s c ≡ true) × ((κ : Kind) → adds s c κ ≡ book_adds B c κ))
        → refusal s c ≡ book_refusal B c
    unfolding refusal book_refusal declines book_declines stands_in number stray
    agrees late =
        given_agree (stands_in (declines s c)) (stands_in (book_declines B c)) alongside bookish
        (λ a b.
        let l = late (same_of c a) (ap (λ (z : Told). placed z.cutting s.job.numbered c) (sym I.told) ∙ not-false _ b) in (
          ap not (and_both (tallies_fit s.job) (stands_for s c) tallies_fit_lem l.0),
          ap (λ (z : Told). layers_differ z.cutting c) (I.told ∙ sym I.btold),
          ap (λ (z : Told). full z.entries s.job.sofar (adds s c)) (I.told ∙ sym I.btold) ∙ full_same B.told.entries s.job.sofar (adds s c) B.sofar (book_adds B c) I.sofar l.1,
          refl,
        ))

  -- ---- call by call

  later : (c : Stage) → stage_number Enrol < stage_number c → stage_number B.stage ≡ stage_number c → stage_number Enrol < stage_number B.stage
  later c h e = omega arith

  -- a map that the book takes for the block's is the block's own
  pub own_of : stage_number Enrol < stage_number B.stage → (b : ℕ) → b < blocks o.cutting → (m : List ℕ) → same_row m (B.maps b) ≡ true → m ≡ own b
  own_of h b hb m e = same_row_lem m (B.maps b) e ∙ I.maps b hb (enrolled h b hb)

  -- a map that the book takes for the block's stands
  pub fit : (b : ℕ) (m : List ℕ) → b < blocks o.cutting → stage_number Enrol < stage_number B.stage → same_row m (B.maps b) ≡ true → map_stands s (block_extents s.job.told.cutting b) b m ≡ true
  fit b m hb h e = ap₂ (λ (z : Told) (x : List ℕ). map_stands s (block_extents z.cutting b) b x) I.told (own_of h b hb m e) ∙ map-stands b hb (enrolled h b hb)

  links_stand_lem : (b : ℕ) → b < blocks o.cutting → stage_number Enrol < stage_number B.stage → links_stand s b ≡ true
  links_stand_lem b hb h = let w = block_in b hb (enrolled h b hb) in block_links s I.faces.linked.sound I.curves.linked.sound b w.0 w.1

  pub enrol_agrees : (b : ℕ) (m : List ℕ) → brings_own B (enrol b m) ≡ true → refusal s (enrol b m) ≡ book_refusal B (enrol b m)
  enrol_agrees b m e =
      agrees (enrol b m) (λ h. refl)
      (λ h p. (refl, same))
    where
      same : (κ : Kind) → adds s (enrol b m) κ ≡ book_adds B (enrol b m) κ
      same Face = unfold adds book_adds in ap (λ (z : Told). largest (block_extents z.cutting b) m 2) (I.told ∙ sym I.btold)
      same Curve = unfold adds book_adds in ap (λ (z : Told). largest (block_extents z.cutting b) m 1) (I.told ∙ sym I.btold)
      same Point = unfold adds book_adds in refl

  pub join_agrees : (b c : ℕ) (m n : List ℕ) → brings_own B (join b c m n) ≡ true → refusal s (join b c m n) ≡ book_refusal B (join b c m n)
  unfolding adds book_adds
  join_agrees b c m n e =
      agrees (join b c m n) (λ h. refl)
      (λ h p.
      let l = seam_listed o.cutting b c p in
      let g : stage_number Enrol < stage_number B.stage = later Seam (omega arith) h in (
        and_both (map_stands s (block_extents s.job.told.cutting b) b m) (map_stands s (block_extents s.job.told.cutting c) c n && (links_stand s b && links_stand s c))
            (fit b m l.0 g (and_first (same_row m (B.maps b)) (same_row n (B.maps c)) e))
            (and_both (map_stands s (block_extents s.job.told.cutting c) c n) (links_stand s b && links_stand s c)
            (fit c n l.1 g (and_second (same_row m (B.maps b)) (same_row n (B.maps c)) e))
            (and_both (links_stand s b) (links_stand s c) (links_stand_lem b l.0 g) (links_stand_lem c l.1 g))),
        λ κ. refl,
      ))

  pub cross_agrees : (b : ℕ) (m : List ℕ) → brings_own B (cross b m) ≡ true → refusal s (cross b m) ≡ book_refusal B (cross b m)
  unfolding adds book_adds
  cross_agrees b m e =
      agrees (cross b m) (λ h. refl)
      (λ h p. (
        and_both (map_stands s (block_extents s.job.told.cutting b) b m) (links_stand s b && cond (last_crossing s b) (rows_stand s && all_links_stand s) true)
            (fit b m (ltb-true _ _ p) (later Crossing (omega arith) h) e)
            (and_both (links_stand s b) (cond (last_crossing s b) (rows_stand s && all_links_stand s) true)
            (links_stand_lem b (ltb-true _ _ p) (later Crossing (omega arith) h))
            (picked (λ (t : Bool). t ≡ true) (last_crossing s b) (rows_stand s && all_links_stand s) true
            (λ t. and_both (rows_stand s) (all_links_stand s) rows_stand_lem (all_links s I.faces.linked.sound I.curves.linked.sound)) (λ t. refl))),
        λ κ. refl,
      ))

  -- the points that a step finds are those of the uncut volume, and final numbers are those of the closed tables: shown from the numbers of the curves
  pub point_agrees : (b : ℕ) (m : List ℕ) → brings_own B (point b m) ≡ true → (stage_number B.stage ≡ stage_number Points → b < blocks o.cutting → m ≡ own b → (κ : Kind) → adds s (point b m) κ ≡ book_adds B (point b m) κ)
      → (stage_number B.stage ≡ stage_number Points → b < blocks o.cutting → curves_stand s b ≡ true) → refusal s (point b m) ≡ book_refusal B (point b m)
  point_agrees b m e found numbers =
      agrees (point b m) (λ h. refl)
      (λ h p.
      let g : stage_number Enrol < stage_number B.stage = later Points (omega arith) h in
      (and_both (map_stands s (block_extents s.job.told.cutting b) b m) (curves_stand s b) (fit b m (ltb-true _ _ p) g e) (numbers h (ltb-true _ _ p)), found h (ltb-true _ _ p) (own_of g b (ltb-true _ _ p) m e)))

  pub lookup_agrees : (b : ℕ) (m : List ℕ) (c : Triple) → brings_own B (look b m c) ≡ true
      → (stage_number B.stage ≡ stage_number Closed → b < blocks o.cutting → has_cell o.cutting b c ≡ true → m ≡ own b → look_stands s b m (local s.job.told.cutting b c) ≡ true)
      → refusal s (look b m c) ≡ book_refusal B (look b m c)
  unfolding adds book_adds
  lookup_agrees b m c e numbers =
      agrees (look b m c) (λ h. refl)
      (λ h p.
      let hb : b < blocks o.cutting = ltb-true _ _ (and_first (ltb b (blocks o.cutting)) (has_cell o.cutting b c) p) in
      let g : stage_number Enrol < stage_number B.stage = later Closed (omega arith) h in (
        and_both (map_stands s (block_extents s.job.told.cutting b) b m) (look_stands s b m (local s.job.told.cutting b c)) (fit b m hb g e)
            (numbers h hb (and_second (ltb b (blocks o.cutting)) (has_cell o.cutting b c) p) (own_of g b hb m e)),
        λ κ. refl,
      ))

  pub reading_agrees : (κ : Kind) (n : ℕ) → (stage_number B.stage ≡ stage_number Closed → s.job.numbered κ ≡ uncut_count B κ) → refusal s (reading κ n) ≡ book_refusal B (reading κ n)
  unfolding adds book_adds
  reading_agrees κ n total = agrees (reading κ n) (λ h. ap (λ (x : ℕ). ltb 0 n && leb n x) (total h)) (λ h p. (refl, λ κ'. refl))
