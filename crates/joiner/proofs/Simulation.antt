-- The list against the day book, call by call.
-- Assumes nothing.
use mathlib.Core.Bool.{Bool, ◌&&◌, cond, false, true, true≢false}
use mathlib.Core.List.Memᴰ
use mathlib.Core.List.{List, Memᴰ, [], ◌∷◌}
use mathlib.Core.Logic.{◌↔◌, ◌≢◌, ◌⊎◌, inl, inr}
use mathlib.Core.Path.{◌∙◌, ◌≡◌, ap, ap₂, refl, subst, sym}
use Prim.Native.Nat.{◌%◌, ◌*◌, ◌+◌, ◌/◌, ◌<◌, ◌≤◌, suc, ℕ}
use native.Mathlib.Omega.{arith}
use lib.Dec.{T, eqb, leb, ltb}
use lib.ListN.{get_or, length, take}
use borrow.Author.Tests.{eq-eqb, eqb-false, eqb-true, leb-true, ltb-true}
use Rattle.lists.specs.Lists.{is_in, tabulate}
use Rattle.closure.specs.Joined.{edge}
use Rattle.cells.specs.declared.Axis.TheVariants.{X}
use Rattle.cells.specs.declared.Triple.{Triple}
use Rattle.cells.specs.Extents.{off_size}
use Rattle.cells.specs.Grid.{cells}
use Rattle.cells.specs.Row.{same_row}
use Rattle.labels.specs.Components.{component_row, first_cell, largest}
use Rattle.cutting.specs.Cutting.{Cutting, block_extents, blocks, good_cut}
use Rattle.joiner.specs.Book.{Book, accepts, book_adds, book_after, book_answer, book_early, book_refusal, brings_own, entered, labelled, turned, uncut, uncut_count}
use Rattle.joiner.specs.Calls.{Answer, Call, answer, cross, enrol, join, look, placed, point, reading, repeated, stage_of}
use Rattle.joiner.specs.Declines.{adds, look_stands, point_cells, refusal}
use Rattle.joiner.specs.Outcomes.{CrossingDone, Done, EnrolDone, KeptFound, KeptNumbers, NumberedKind, PointDone, SeamDone, CallStep, looked_up}
use Rattle.joiner.specs.Job.{Closed, Crossing, Curve, Enrol, Face, Kind, Point, Points, Seam, Stage, State, Told, count_of, first_at, key_position, order_of, stage_number, ticked, width}
use Rattle.joiner.specs.Sheets.{last_state}
use Rattle.joiner.specs.Stages.{codes_of, crossing_step, enrol_step, finished, has_cell, local, next_after, next_stage, point_step, seam_step, seams, steps_of}
use Rattle.joiner.specs.Statement.{Agrees, AllDone, Brings, Event, Fair, Labelling, Measured, Run, Uncut}
use Rattle.lists.proofs.Cases.{and_both, and_first, and_second, by_test, picked}
use Rattle.lists.proofs.Lists.{consecutive_in}
use Rattle.lists.proofs.Tests.{is_in_lem}
use Rattle.cells.proofs.RowLaws.{row_same}
use Rattle.joiner.proofs.Classes.{vol}
use Rattle.joiner.proofs.LaterKeeps.{cross_keeps, point_keeps}
use Rattle.joiner.proofs.EnrolKeeps.{enrol_keeps}
use Rattle.joiner.proofs.Final.{Final, cells_final, final_points, finals, more_points, point_adds, uncut_is, volume_map}
use Rattle.joiner.proofs.Inv.{In, Inv, block_in, book_early_lem, book_passed, book_stray, cross_agrees, early_agrees, early_only, enrol_agrees, enrolled, join_agrees, lookup_agrees, point_agrees, reading_agrees}
use Rattle.joiner.proofs.Codes.{cell_in_block}
use Rattle.joiner.proofs.Linking.{Enrolled, curves_stand_lem, look_stands_lem}
use Rattle.joiner.proofs.Own.{labelling_labelled}
use Rattle.joiner.proofs.FoundPoints.{PointsSo, points_more, points_none, points_of}
use Rattle.joiner.proofs.Progress.{closed_all, crossing_level, point_level, step_stage}
use Rattle.joiner.proofs.Readings.{cell_read, row_read}
use Rattle.joiner.proofs.SeamKeeps.{join_keeps}
use Rattle.joiner.proofs.Shared.{seam_listed}
use Rattle.joiner.proofs.Passed.{passed}

-- ---- the stages after a step

next_enrol : (k : Cutting) (f : ℕ → Bool) → stage_number (next_after k f Enrol) ≤ stage_number Crossing
unfolding next_after next_stage
next_enrol k f =
    picked (λ (z : Stage). stage_number z ≤ stage_number Crossing) (finished k f Enrol) (cond (eqb (length (seams k)) 0) Crossing Seam) Enrol
    (λ t. picked (λ (z : Stage). stage_number z ≤ stage_number Crossing) (eqb (length (seams k)) 0) Crossing Seam (λ u. omega arith) (λ u. omega arith)) (λ t. omega arith)

next_seam : (k : Cutting) (f : ℕ → Bool) → stage_number (next_after k f Seam) ≤ stage_number Crossing
unfolding next_after next_stage
next_seam k f = picked (λ (z : Stage). stage_number z ≤ stage_number Crossing) (finished k f Seam) Crossing Seam (λ t. omega arith) (λ t. omega arith)

next_cross : (k : Cutting) (f : ℕ → Bool) → (next_after k f Crossing ≡ Crossing) ⊎ (next_after k f Crossing ≡ Points)
unfolding next_after next_stage
next_cross k f = picked (λ (z : Stage). (z ≡ Crossing) ⊎ (z ≡ Points)) (finished k f Crossing) Points Crossing (λ t. inr refl) (λ t. inl refl)

next_point : (k : Cutting) (f : ℕ → Bool) → (next_after k f Points ≡ Points) ⊎ (next_after k f Points ≡ Closed)
unfolding next_after next_stage
next_point k f = picked (λ (z : Stage). (z ≡ Points) ⊎ (z ≡ Closed)) (finished k f Points) Closed Points (λ t. inr refl) (λ t. inl refl)

module _ (o : Told) (own : ℕ → List ℕ) (ext : off_size 1024 o.cutting.extents ≡ false) (good : good_cut o.cutting ≡ true)
    (lab : (b : ℕ) → b < blocks o.cutting → Labelling (block_extents o.cutting b) (own b)) where
  -- what holds between the book and the service after each call
  pub record Sim (B : Book) (s : State) : Type 0 where
    pub inv : Inv o own B s
    pub final_two : stage_number Points ≤ stage_number B.stage → Final o own good lab s Face × Final o own good lab s Curve
    pub no_points : stage_number B.stage ≤ stage_number Crossing → s.job.sofar Point ≡ 0
    pub some_points : stage_number B.stage ≡ stage_number Points → PointsSo o.cutting good (codes_of o.cutting own) s.tables B.done (s.job.sofar Point)
    pub all_points : stage_number B.stage ≡ stage_number Closed → Final o own good lab s Point

  module _ (B : Book) (s : State) (S : Sim B s) where
    pub finals_at : stage_number B.stage ≡ stage_number Closed → (κ : Kind) → Final o own good lab s κ
    finals_at q Face = (S.final_two (omega arith)).0
    finals_at q Curve = (S.final_two (omega arith)).1
    finals_at q Point = S.all_points q

    -- a closed job's tables are the uncut volume's
    pub closed_uncut : stage_number B.stage ≡ stage_number Closed → (κ : Kind) → Uncut B s κ
    closed_uncut q κ =
        let f : Final o own good lab s κ = finals_at q κ in
        let u : uncut B ≡ volume_map o own good lab = uncut_is o own good lab B s S.inv (omega arith) in
        record {
          total = f.total ∙ sym (ap₂ (λ (z : Told) (m : List ℕ). largest z.cutting.extents m (order_of κ)) S.inv.btold u);
          firsts = f.firsts ∙ sym (ap₂ (λ (z : Told) (m : List ℕ). tabulate (s.job.numbered κ) (λ i. first_cell z.cutting.extents m (order_of κ) (suc i))) S.inv.btold u);
          rows = f.rows ∙ sym (ap₂ (λ (z : Told) (m : List ℕ). tabulate (width κ * s.job.numbered κ) (λ i. get_or (component_row z.cutting.extents m (order_of κ) (suc (i / width κ))) (i % width κ) 0)) S.inv.btold u);
        }

  module _ (B : Book) (s : State) (S : Sim B s) where
    abbrev I : Inv o own B s
    I = S.inv

    -- a closed job's count is the uncut volume's
    pub total_at_lem : stage_number B.stage ≡ stage_number Closed → (κ : Kind) → s.job.numbered κ ≡ uncut_count B κ
    unfolding uncut_count
    total_at_lem q κ = (closed_uncut B s S q κ).total

    placed_alike : (c : Call) → stage_number B.stage ≡ stage_number (stage_of c) → placed o.cutting s.job.numbered c ≡ placed o.cutting (uncut_count B) c
    placed_alike (enrol b m) h = refl
    placed_alike (join b c m n) h = refl
    placed_alike (cross b m) h = refl
    placed_alike (point b m) h = refl
    placed_alike (look b m c) h = refl
    placed_alike (reading κ n) h = ap (λ (x : ℕ). ltb 0 n && leb n x) (total_at_lem h κ)

    -- after the crossings every block is enrolled
    pub enrolled_block : stage_number Points ≤ stage_number B.stage → (b : ℕ) → b < blocks o.cutting → Enrolled s b Face × Enrolled s b Curve
    enrolled_block l b hb = block_in o own ext good lab B s I b hb (enrolled o own ext good lab B s I (omega (arith, l)) b hb)

    -- the final number that a closed job hands out for a cell of a block, with the block's own map, is one of the closed table's
    pub own_looked : stage_number B.stage ≡ stage_number Closed → (b : ℕ) → b < blocks o.cutting → (m : List ℕ) → m ≡ own b → (c : Triple) → has_cell o.cutting b c ≡ true
        → look_stands s b m (local s.job.told.cutting b c) ≡ true
    own_looked h b hb m q c has =
        let l : stage_number Points ≤ stage_number B.stage = omega arith in
        ap₂ (λ (z : Told) (x : List ℕ). look_stands s b x (local z.cutting b c)) I.told q
        ∙ look_stands_lem s b (own b) (local o.cutting b c)
        (subst (λ (z : Told). local o.cutting b c < cells (block_extents z.cutting b)) (sym I.told) (cell_in_block o.cutting good b hb c has).0)
        (λ κ. subst (λ (z : Told). largest (block_extents z.cutting b) (own b) (order_of κ) ≤ count_of s.tables κ b) (sym I.told) (omega (arith, I.counts κ b hb (enrolled o own ext good lab B s I (omega (arith, l)) b hb))))
        ((S.final_two l).0.within, (S.final_two l).1.within) (enrolled_block l b hb)

    -- ---- the refusal of a call with its blocks' maps

    own_refused : (c : Call) → brings_own B c ≡ true → refusal s c ≡ book_refusal B c
    own_refused (enrol b m) e = enrol_agrees o own ext good lab B s I b m e
    own_refused (join b c m n) e = join_agrees o own ext good lab B s I b c m n e
    own_refused (cross b m) e = cross_agrees o own ext good lab B s I b m e
    own_refused (point b m) e =
        point_agrees o own ext good lab B s I b m e
        (λ h hb q κ.
        let l : stage_number Points ≤ stage_number B.stage = omega arith in
        ap (λ (x : List ℕ). adds s (point b x) κ) q ∙ point_adds o own good lab B s I l (S.final_two l).1 b hb κ ∙ ap (λ (x : List ℕ). book_adds B (point b x) κ) (sym q))
        (λ h hb.
        let l : stage_number Points ≤ stage_number B.stage = omega arith in
        curves_stand_lem s b (S.final_two l).1.within (enrolled_block l b hb).1)
    own_refused (look b m c) e = lookup_agrees o own ext good lab B s I b m c e (λ h hb has q. own_looked h b hb m q c has)
    own_refused (reading κ n) e = reading_agrees o own ext good lab B s I κ n (λ h. total_at_lem h κ)

    -- ---- what an accepted call passed

    placed_at : (c : Call) → refusal s c ≡ 0 → placed o.cutting s.job.numbered c ≡ true
    placed_at c r = ap (λ (z : Told). placed z.cutting s.job.numbered c) (sym I.told) ∙ (passed s c r).placed_in

    -- the book's stage is that of an accepted call
    pub book_stage : (c : Call) → refusal s c ≡ 0 → B.stage ≡ stage_of c
    book_stage c r = sym I.stage ∙ (passed s c r).stage

    -- a block's own map is the one that the book keeps
    pub maps_at : (b : ℕ) → b < blocks o.cutting → stage_number Enrol < stage_number B.stage → (m : List ℕ) → m ≡ own b → same_row m (B.maps b) ≡ true
    maps_at b hb h m e = ap₂ same_row e (I.maps b hb (enrolled o own ext good lab B s I h b hb)) ∙ row_same (own b)

    past : (c : Call) → refusal s c ≡ 0 → stage_number Enrol < stage_number (stage_of c) → stage_number Enrol < stage_number B.stage
    past c r h = omega (arith, ap stage_number (book_stage c r), h)

    -- a call in its stage, of blocks that there are, brings what the book takes for its blocks' maps
    brings : (c : Call) (many : Kind → ℕ) → stage_number B.stage ≡ stage_number (stage_of c) → placed o.cutting many c ≡ true → Brings own c → brings_own B c ≡ true
    brings (enrol b m) n q p e =
        ap₂ (λ (z : Told) (x : List ℕ). labelled (block_extents z.cutting b) x) I.btold e ∙ labelling_labelled (block_extents o.cutting b) (own b) (lab b (ltb-true _ _ p))
    brings (join b c m n) k q p e =
        let l = seam_listed o.cutting b c p in
        let h : stage_number Enrol < stage_number B.stage = omega (arith, q) in
        and_both (same_row m (B.maps b)) (same_row n (B.maps c)) (maps_at b l.0 h m e.0) (maps_at c l.1 h n e.1)
    brings (cross b m) n q p e = maps_at b (ltb-true _ _ p) (omega (arith, q)) m e
    brings (point b m) n q p e = maps_at b (ltb-true _ _ p) (omega (arith, q)) m e
    brings (look b m c) n q p e = maps_at b (ltb-true _ _ (and_first (ltb b (blocks o.cutting)) (has_cell o.cutting b c) p)) (omega (arith, q)) m e
    brings (reading κ n) k q p e = refl

    -- the refusal of a call with the blocks' maps
    brought : (c : Call) → Brings own c → refusal s c ≡ book_refusal B c
    brought c e = by_test (eqb (book_early B c) 0) (λ t. late (eqb-true _ _ t)) (λ t. early (eqb-false _ _ t))
      where
        early : book_early B c ≢ 0 → refusal s c ≡ book_refusal B c
        early n = early_agrees o own ext good lab B s I c (placed_alike c) n ∙ sym (book_early_lem o own ext good lab B s I c (placed_alike c) n)

        late : book_early B c ≡ 0 → refusal s c ≡ book_refusal B c
        late z =
            let w = book_passed o own ext good lab B s I c (placed_alike c) z in
            own_refused c (brings c (uncut_count B) w.0 (ap (λ (y : Told). placed y.cutting (uncut_count B) c) (sym I.btold) ∙ w.1) e)

    -- ---- an accepted step keeps all

    fresh_at : (c : Call) (i : ℕ) → refusal s c ≡ 0 → repeated s.job.told.cutting (ticked s.tables) c ≡ ticked s.tables i → Memᴰ i B.done → ⊥
    fresh_at c i r e m = true≢false (sym (I.ticks i ∙ is_in_lem B.done m) ∙ sym e ∙ (passed s c r).fresh)

    enrol_sim : (b : ℕ) (t : State) → refusal s (enrol b (own b)) ≡ 0 → EnrolDone s b (own b) t → Sim (book_after B (enrol b (own b))) t
    unfolding book_after entered adds
    enrol_sim b t r D =
        let g : B.stage ≡ Enrol = book_stage (enrol b (own b)) r in
        let z : stage_number (book_after B (enrol b (own b))).stage ≤ stage_number Crossing = subst (λ (x : Stage). stage_number (next_after B.told.cutting (is_in (enrol_step b ∷ B.done)) x) ≤ stage_number Crossing) (sym g) (next_enrol B.told.cutting (is_in (enrol_step b ∷ B.done))) in
        record {
          inv = enrol_keeps o own good lab B s t I b hb g (fresh_at (enrol b (own b)) (enrol_step b) r refl) D (passed s (enrol b (own b)) r) same_adds;
          final_two = λ h. absurd (omega arith);
          no_points = λ h. D.step.sofar Point ∙ ap (λ (x : ℕ). x + adds s (enrol b (own b)) Point) (S.no_points (omega (arith, ap stage_number g))) ∙ no_more;
          some_points = λ h. absurd (omega arith);
          all_points = λ h. absurd (omega arith);
        }
      where
        hb : b < blocks o.cutting
        hb = ltb-true _ _ (placed_at (enrol b (own b)) r)

        no_more : adds s (enrol b (own b)) Point ≡ 0
        no_more = unfold adds in refl

        same_adds : (κ : Kind) → adds s (enrol b (own b)) κ ≡ book_adds B (enrol b (own b)) κ
        same_adds Face = unfold adds book_adds in ap (λ (z : Told). largest (block_extents z.cutting b) (own b) 2) (I.told ∙ sym I.btold)
        same_adds Curve = unfold adds book_adds in ap (λ (z : Told). largest (block_extents z.cutting b) (own b) 1) (I.told ∙ sym I.btold)
        same_adds Point = unfold adds book_adds in refl

    all_in_book : (c : Call) → refusal s c ≡ 0 → stage_number Enrol < stage_number (stage_of c) → (b : ℕ) → b < blocks o.cutting → In o own B b
    all_in_book c r h = enrolled o own ext good lab B s I (past c r h)

    join_sim : (b c : ℕ) (t : State) → refusal s (join b c (own b) (own c)) ≡ 0 → SeamDone s b c (own b) (own c) t → Sim (book_after B (join b c (own b) (own c))) t
    unfolding book_after entered adds
    join_sim b c t r D =
        let g : B.stage ≡ Seam = book_stage (join b c (own b) (own c)) r in
        let step : ℕ = seam_step B.told.cutting (edge b c) in
        let z : stage_number (book_after B (join b c (own b) (own c))).stage ≤ stage_number Crossing = subst (λ (x : Stage). stage_number (next_after B.told.cutting (is_in (step ∷ B.done)) x) ≤ stage_number Crossing) (sym g) (next_seam B.told.cutting (is_in (step ∷ B.done))) in
        record {
          inv = join_keeps o own good B s I (all_in_book (join b c (own b) (own c)) r (omega arith)) t b c (placed_at (join b c (own b) (own c)) r) g D (passed s (join b c (own b) (own c)) r);
          final_two = λ h. absurd (omega arith);
          no_points = λ h. D.step.sofar Point ∙ ap (λ (x : ℕ). x + adds s (join b c (own b) (own c)) Point) (S.no_points (omega (arith, ap stage_number g))) ∙ no_more;
          some_points = λ h. absurd (omega arith);
          all_points = λ h. absurd (omega arith);
        }
      where
        no_more : adds s (join b c (own b) (own c)) Point ≡ 0
        no_more = unfold adds in refl

    cross_sim : (b : ℕ) (t : State) → refusal s (cross b (own b)) ≡ 0 → CrossingDone s b (own b) t → Sim (book_after B (cross b (own b))) t
    unfolding book_after entered adds
    cross_sim b t r D =
        record {
          inv = J;
          final_two = λ h. two h (cases);
          no_points = λ h. none;
          some_points = λ h. subst (PointsSo o.cutting good (codes_of o.cutting own) t.tables (book_after B (cross b (own b))).done) (sym none) (points_none o.cutting good (codes_of o.cutting own) t.tables (book_after B (cross b (own b))).done no_step);
          all_points = λ h. absurd (not_closed h cases);
        }
      where
        c₀ : Call
        c₀ = cross b (own b)

        g : B.stage ≡ Crossing
        g = book_stage c₀ r

        J : Inv o own (book_after B (cross b (own b))) t
        J = cross_keeps o own good B s I (all_in_book (cross b (own b)) r (omega arith)) t b (ltb-true _ _ (placed_at (cross b (own b)) r)) g D (passed s (cross b (own b)) r)

        cases : ((book_after B (cross b (own b))).stage ≡ Crossing) ⊎ ((book_after B (cross b (own b))).stage ≡ Points)
        cases =
            subst (λ (x : Stage). (next_after B.told.cutting (is_in (crossing_step b ∷ B.done)) x ≡ Crossing) ⊎ (next_after B.told.cutting (is_in (crossing_step b ∷ B.done)) x ≡ Points)) (sym g)
            (next_cross B.told.cutting (is_in (crossing_step b ∷ B.done)))

        tally : (κ : Kind) → t.job.sofar κ ≡ s.job.sofar κ
        tally κ = D.step.sofar κ ∙ (unfold adds in omega arith)

        none : t.job.sofar Point ≡ 0
        none = tally Point ∙ S.no_points (omega (arith, ap stage_number g))

        two : stage_number Points ≤ stage_number (book_after B (cross b (own b))).stage → ((book_after B (cross b (own b))).stage ≡ Crossing) ⊎ ((book_after B (cross b (own b))).stage ≡ Points) → Final o own good lab t Face × Final o own good lab t Curve
        two h (inl e) = absurd (omega (arith, h, ap stage_number e))
        two h (inr e) =
            let N = D.last (J.stage ∙ e) in
            finals o own good lab (book_after B (cross b (own b))) t J h s (subst (NumberedKind s t Face) (sym (tally Face)) N.0, subst (NumberedKind s t Curve) (sym (tally Curve)) N.1)

        not_closed : stage_number (book_after B (cross b (own b))).stage ≡ stage_number Closed → ((book_after B (cross b (own b))).stage ≡ Crossing) ⊎ ((book_after B (cross b (own b))).stage ≡ Points) → ⊥
        not_closed h (inl e) = omega (arith, h, ap stage_number e)
        not_closed h (inr e) = omega (arith, h, ap stage_number e)

        no_step : (d : ℕ) → Memᴰ (point_step d) (crossing_step b ∷ B.done) → ⊥
        no_step d m = go (Memᴰ.cases_cons m)
          where
            go : (point_step d ≡ crossing_step b) ⊎ Memᴰ (point_step d) B.done → ⊥
            go (inl e) = omega (arith, ap step_stage e, point_level d, crossing_level b)
            go (inr n) = omega (arith, I.progress.past (point_step d) n, point_level d, ap stage_number g)

    -- what is numbered stays so
    final_kept : (t : State) (κ : Kind) → t.job.sofar κ ≡ s.job.sofar κ → KeptFound s t κ → KeptNumbers s t κ → Final o own good lab s κ → Final o own good lab t κ
    unfolding vol first_at
    final_kept t κ e F N f =
        record {
          numbers = λ x hx.
              ap (λ (l : List ℕ). get_or l x 0) N.numbers ∙ f.numbers x (omega (arith, e))
              ∙ ap (λ (l : List ℕ). get_or (volume_map o own good lab) (key_position (get_or l x 0)) 0) (sym F.keys);
          within = λ x hx.
              let w = f.within x (omega (arith, e)) in
              let q = ap (λ (l : List ℕ). get_or l x 0) N.numbers in
              (omega (arith, q, w.0), omega (arith, q, w.1, N.numbered));
          total = N.numbered ∙ f.total;
          firsts = subst (λ (n : ℕ). take n (t.tables.firsts κ) ≡ tabulate n (λ i. first_cell o.cutting.extents (volume_map o own good lab) (order_of κ) (suc i))) (sym N.numbered) (ap (take (s.job.numbered κ)) N.firsts ∙ f.firsts);
          rows = subst (λ (n : ℕ). take (width κ * n) (t.tables.listed κ) ≡ tabulate (width κ * n) (λ i. get_or (component_row o.cutting.extents (volume_map o own good lab) (order_of κ) (suc (i / width κ))) (i % width κ) 0)) (sym N.numbered) (ap (take (width κ * s.job.numbered κ)) N.listed ∙ f.rows);
        }

    point_sim : (b : ℕ) (t : State) → refusal s (point b (own b)) ≡ 0 → PointDone s b (own b) t → Sim (book_after B (point b (own b))) t
    unfolding book_after entered adds
    point_sim b t r D =
        record {
          inv = J;
          final_two = λ h. (final_kept t Face (sofar_same Face (unfold adds in refl)) D.faces.0 D.faces.1 (S.final_two l).0, final_kept t Curve (sofar_same Curve (unfold adds in refl)) D.curves.0 D.curves.1 (S.final_two l).1);
          no_points = λ h. absurd (not_early h cases);
          some_points = λ h. so;
          all_points = λ h. final_points o own good lab (book_after B (point b (own b))) t J (omega arith) s so (every h) (D.last (J.stage ∙ closed h cases));
        }
      where
        c₀ : Call
        c₀ = point b (own b)

        g : B.stage ≡ Points
        g = book_stage c₀ r

        l : stage_number Points ≤ stage_number B.stage
        l = omega (arith, ap stage_number g)

        hb : b < blocks o.cutting
        hb = ltb-true _ _ (placed_at c₀ r)

        more : (κ : Kind) → adds s (point b (own b)) κ ≡ book_adds B (point b (own b)) κ
        more = point_adds o own good lab B s I l (S.final_two l).1 b hb

        sofar_same : (κ : Kind) → adds s (point b (own b)) κ ≡ 0 → t.job.sofar κ ≡ s.job.sofar κ
        sofar_same κ z = omega (arith, D.step.sofar κ, z)

        J : Inv o own (book_after B (point b (own b))) t
        J = point_keeps o own good B s I (all_in_book (point b (own b)) r (omega arith)) t b hb g D (passed s (point b (own b)) r) more

        cases : ((book_after B (point b (own b))).stage ≡ Points) ⊎ ((book_after B (point b (own b))).stage ≡ Closed)
        cases =
            subst (λ (x : Stage). (next_after B.told.cutting (is_in (point_step b ∷ B.done)) x ≡ Points) ⊎ (next_after B.told.cutting (is_in (point_step b ∷ B.done)) x ≡ Closed)) (sym g)
            (next_point B.told.cutting (is_in (point_step b ∷ B.done)))

        not_early : stage_number (book_after B (point b (own b))).stage ≤ stage_number Crossing → ((book_after B (point b (own b))).stage ≡ Points) ⊎ ((book_after B (point b (own b))).stage ≡ Closed) → ⊥
        not_early h (inl e) = omega (arith, h, ap stage_number e)
        not_early h (inr e) = omega (arith, h, ap stage_number e)

        closed : stage_number (book_after B (point b (own b))).stage ≡ stage_number Closed → ((book_after B (point b (own b))).stage ≡ Points) ⊎ ((book_after B (point b (own b))).stage ≡ Closed) → (book_after B (point b (own b))).stage ≡ Closed
        closed h (inl e) = absurd (omega (arith, h, ap stage_number e))
        closed h (inr e) = e

        every : stage_number (book_after B (point b (own b))).stage ≡ stage_number Closed → (d : ℕ) → d < blocks o.cutting → Memᴰ (point_step d) (book_after B (point b (own b))).done
        every h d hd = J.progress.all_done Points (omega (arith, h)) (point_step d) (unfold steps_of in Memᴰ.map point_step (consecutive_in 0 (blocks o.cutting) (omega arith) (omega (arith, hd))))

        tally : t.job.sofar Point ≡ s.job.sofar Point + length (points_of o.cutting good (codes_of o.cutting own) b)
        tally = D.step.sofar Point ∙ ap (λ (x : ℕ). s.job.sofar Point + x) (unfold adds in (ap (λ (z : Told). length (point_cells z.cutting s.tables b (own b))) I.told ∙ ap length (cells_final o own good lab B s I l (S.final_two l).1 b hb)))

        room : s.job.sofar Point + adds s (point b (own b)) Point ≤ o.entries Point
        room = omega (arith, D.step.sofar Point, J.sofar Point, J.room Point)

        so : PointsSo o.cutting good (codes_of o.cutting own) t.tables (book_after B (point b (own b))).done (t.job.sofar Point)
        so =
            subst (PointsSo o.cutting good (codes_of o.cutting own) t.tables (book_after B (point b (own b))).done) (sym tally)
            (points_more o.cutting good (codes_of o.cutting own) s.tables t.tables B.done (s.job.sofar Point) b (S.some_points (ap stage_number g)) hb (fresh_at c₀ (point_step b) r refl)
            (more_points o own good lab B s I l (S.final_two l).1 b hb t D room))

    -- ---- an accepted call

    accepted : (c : Call) (a : Answer) (t : State) → refusal s c ≡ 0 → Done s c a t → Brings own c → (a ≡ book_answer B c) × Sim (book_after B c) t
    unfolding book_answer book_after
    accepted (enrol b m) a t r D e = (D.0, subst (λ (x : List ℕ). refusal s (enrol b x) ≡ 0 → EnrolDone s b x t → Sim (book_after B (enrol b x)) t) (sym e) (enrol_sim b t) r D.1)
    accepted (join b c m n) a t r D e = (
      D.0,
      subst (λ (y : List ℕ). refusal s (join b c m y) ≡ 0 → SeamDone s b c m y t → Sim (book_after B (join b c m y)) t) (sym e.1)
          (subst (λ (x : List ℕ). refusal s (join b c x (own c)) ≡ 0 → SeamDone s b c x (own c) t → Sim (book_after B (join b c x (own c))) t) (sym e.0) (join_sim b c t)) r D.1,
    )
    accepted (cross b m) a t r D e = (D.0, subst (λ (x : List ℕ). refusal s (cross b x) ≡ 0 → CrossingDone s b x t → Sim (book_after B (cross b x)) t) (sym e) (cross_sim b t) r D.1)
    accepted (point b m) a t r D e = (D.0, subst (λ (x : List ℕ). refusal s (point b x) ≡ 0 → PointDone s b x t → Sim (book_after B (point b x)) t) (sym e) (point_sim b t) r D.1)
    accepted (look b m c) a t r D e =
        let q : stage_number B.stage ≡ stage_number Closed = ap stage_number (book_stage (look b m c) r) in
        let p = placed_at (look b m c) r in (
          D.0 ∙ ap (λ (x : List ℕ). answer 0 (looked_up s b x c) []) e
              ∙ ap (λ (v : ℕ). answer 0 v []) (cell_read o own good lab B s I (omega arith) (finals_at B s S q) b c (ltb-true _ _ (and_first (ltb b (blocks o.cutting)) (has_cell o.cutting b c) p)) (and_second (ltb b (blocks o.cutting)) (has_cell o.cutting b c) p)),
          subst (Sim B) (sym D.1) S,
        )
    accepted (reading κ n) a t r D e =
        let q : stage_number B.stage ≡ stage_number Closed = ap stage_number (book_stage (reading κ n) r) in
        let p = placed_at (reading κ n) r in (
          D.0 ∙ ap (λ (l : List ℕ). answer 0 0 l) (row_read o own good lab B s I (omega arith) (finals_at B s S q) κ n (ltb-true _ _ (and_first (ltb 0 n) (leb n (s.job.numbered κ)) p)) (leb-true _ _ (and_second (ltb 0 n) (leb n (s.job.numbered κ)) p))),
          subst (Sim B) (sym D.1) S,
        )

    -- ---- one call of the list

    pub record OneCall (e : Event) : Type 0 where
      pub agrees : Agrees own B e
      pub after : Sim (turned B e.call) e.after

    module _ (e : Event) (P : CallStep s e.call e.answer e.after) (fair : e.answer.refusal ≡ 0 → Brings own e.call) where
      -- what is accepted is what the book accepts
      taken : refusal s e.call ≡ 0 → accepts B e.call ≡ true
      unfolding accepts
      taken r =
          let w : brings_own B e.call ≡ true = brings e.call s.job.numbered (ap stage_number (book_stage e.call r)) (placed_at e.call r) (fair (P.told ∙ r)) in
          and_both (eqb (book_refusal B e.call) 0) (brings_own B e.call) (eq-eqb _ _ (sym (own_refused e.call w) ∙ r)) w

      taken_back : accepts B e.call ≡ true → refusal s e.call ≡ 0
      unfolding accepts
      taken_back t = own_refused e.call (and_second (eqb (book_refusal B e.call) 0) (brings_own B e.call) t) ∙ eqb-true _ _ (and_first (eqb (book_refusal B e.call) 0) (brings_own B e.call) t)

      turned_yes : accepts B e.call ≡ true → turned B e.call ≡ book_after B e.call
      unfolding turned
      turned_yes t = rw t refl

      turned_no : accepts B e.call ≡ false → turned B e.call ≡ B
      unfolding turned
      turned_no t = rw t refl

      closed_so : (C : Book) (t : State) → Sim C t → (t.job.stage ≡ Closed) ↔ AllDone C
      closed_so C t T =
          let J : Inv o own C t = T.inv in
          let w = closed_all o.cutting C.done C.stage J.progress in (
            (λ q. subst (λ (z : Told). (x : Stage) (i : ℕ) → Memᴰ i (steps_of z.cutting x) → Memᴰ i C.done) (sym J.btold) (w.0 (sym J.stage ∙ q))),
            (λ h. J.stage ∙ w.1 (subst (λ (z : Told). (x : Stage) (i : ℕ) → Memᴰ i (steps_of z.cutting x) → Memᴰ i C.done) J.btold h)),
          )

      both_agree : Sim (turned B e.call) e.after → (e.answer.refusal ≡ 0 → e.answer ≡ book_answer B e.call) → OneCall e
      both_agree T a =
          record {
            agrees =
                record {
                  no_stray = λ w z. book_stray o own ext good lab B s I e.call (placed_alike e.call) (sym (P.told ∙ brought e.call w) ∙ z);
                  brought = λ w. P.told ∙ brought e.call w;
                  refused = λ w. P.told ∙ own_refused e.call w;
                  early = λ n. P.told ∙ early_agrees o own ext good lab B s I e.call (placed_alike e.call) n;
                  early_only = λ h k. P.told ∙ early_only o own ext good lab B s I e.call (placed_alike e.call) (omega (arith, h, P.told)) (omega (arith, k, P.told));
                  judged = ((λ z. taken (sym P.told ∙ z)), (λ t. P.told ∙ taken_back t));
                  answered = a;
                  closed = closed_so (turned B e.call) e.after T;
                  tables = λ q κ. shut (turned B e.call) e.after T q κ;
                };
            after = T;
          }
        where
          shut : (C : Book) (t : State) (T : Sim C t) → t.job.stage ≡ Closed → (κ : Kind) → Uncut C t κ
          shut C t T q κ = closed_uncut C t T (ap stage_number (sym T.inv.stage ∙ q)) κ

      pub one_call : OneCall e
      one_call = by_test (eqb (refusal s e.call) 0) (λ t. yes (eqb-true _ _ t)) (λ t. no (eqb-false _ _ t))
        where
          yes : refusal s e.call ≡ 0 → OneCall e
          yes r =
              let z : e.answer.refusal ≡ 0 = P.told ∙ r in
              let w = accepted e.call e.answer e.after r (P.accepted r) (fair z) in
              both_agree (subst (λ (X : Book). Sim X e.after) (sym (turned_yes (taken r))) w.1) (λ q. w.0)

          no : refusal s e.call ≢ 0 → OneCall e
          no n =
              let t : accepts B e.call ≡ false = by_test (accepts B e.call) (λ t. absurd (n (taken_back t))) (λ t. t) in
              both_agree (subst (λ (X : Book). Sim X e.after) (sym (turned_no t)) (subst (Sim B) (sym (P.declined n).1) S)) (λ q. absurd (n (sym P.told ∙ q)))

  -- ---- the list

  pub measured : (B : Book) (s : State) (es : List Event) → Sim B s → Run s es → Fair own es → Measured own B es
  measured B s [] S R F = Measured.none
  measured B s (e ∷ es) S (Run.next P R) F = let k : OneCall B s S e = one_call B s S e P F.0 in Measured.next k.agrees (measured (turned B e.call) e.after es k.after R F.1)

  -- the book and the service at the end of the list
  pub simulated : (B : Book) (s : State) (es : List Event) → Sim B s → Run s es → Fair own es → (C : Book) × Sim C (last_state s es)
  simulated B s [] S R F = (B, S)
  simulated B s (e ∷ es) S (Run.next P R) F = let k : OneCall B s S e = one_call B s S e P F.0 in simulated (turned B e.call) e.after es k.after R F.1
