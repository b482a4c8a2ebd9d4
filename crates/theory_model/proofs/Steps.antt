-- Every call in every state has an outcome: the model's answer and state keep the contract of each public entry. So does its opening.
-- Assumes nothing.
use mathlib.Core.Bool.{true, false}
use mathlib.Core.List.{List}
use mathlib.Core.Logic.{◌≢◌}
use mathlib.Core.Path.{◌∙◌, ◌≡◌, ap, refl, sym}
use Prim.Native.Nat.{ℕ, suc, ◌+◌, ◌*◌, ◌<◌, ◌≤◌}
use native.Mathlib.Omega.{arith}
use lib.Dec.{eqb}
use lib.ListN.{length}
use borrow.Author.Tests.{eqb-false, eqb-true}
use Rattle.lists.specs.Lists.{overlay}
use Rattle.cells.specs.Grid.{order}
use Rattle.cutting.specs.Cutting.{Cutting, block_extents}
use Rattle.joiner.specs.Job.{Kind, Face, Curve, Point, order_of, Stage, Points, Closed, same_stage, Told, Tables, State, ticked, block_trays, link_trays, found_trays, number_trays, first_trays, listed_trays, kind_trays, first_at}
use Rattle.joiner.specs.Stages.{next_after}
use Rattle.joiner.specs.Calls.{Call, enrol, join, cross, point, look, reading}
use Rattle.joiner.specs.Declines.{adds, map_stands, refusal, lent_to}
use Rattle.joiner.specs.Outcomes.{AtCrossing, AtSeam, CrossingDone, Done, EnrolDone, KeptNumbers, Merged, NumberedKind, Opened, Unopened, PointDone, SeamDone, CallStep, open_refusal, nothing, heads, leads, is_one, class_of, not_after, rank, head_of, row_at, row_final, final_face}
use Rattle.lists.proofs.Cases.{and_first, and_second, by_test, picked}
use Rattle.cells.proofs.GridLaws.{upper_neighbour}
use Rattle.union_find.proofs.LinkLaws.{rooted_refl}
use Rattle.labels.proofs.ComponentLaws.{of_order_out}
use Rattle.cutting.proofs.CutLaws.{embed_order}
use Rattle.joiner.proofs.Shared.{seam_listed, shared_out}
use Rattle.joiner.proofs.Passed.{Passed, Standing, curves_stand_lem, faces_stand_lem, passed, fits_at_lem, node_in, points_room, tally_fits_lem, is_stage, not_stage}
use Rattle.joiner.proofs.Kept.{found_kept, numbers_kept_lem}
use Rattle.theory_model.specs.Model.{after, answer_of, cleared, cross_edges, cross_last, cross_tables, crossed, enrol_tables, fresh_job, accepted_answer, instead, accepted_state, moved, number_kind, opened_state, point_last, point_tables, pointed, relinked, seam_edges, seam_tables}
use Rattle.theory_model.proofs.Merging.{relinked_merged}
use Rattle.theory_model.proofs.Edges.{cross_edges_in, cross_edges_out, seam_edges_in, seam_edges_out}
use Rattle.theory_model.proofs.Numbers.{numbered_by}

-- ---- enrol

enrol_done : (s : State) (b : ℕ) (m : List ℕ) → EnrolDone s b m (accepted_state s (enrol b m))
unfolding accepted_state moved enrol_tables adds overlay
enrol_done s b m = record {
  step = record { told = refl; ticks = refl; stage = refl; sofar = λ κ. refl };
  blocks = refl;
  faces = record { links = refl; keys = refl; rows = refl };
  curves = record { links = refl; keys = refl; rows = refl };
  points = found_kept refl;
  numbers = λ κ. numbers_kept_lem refl refl;
}

-- ---- seam

module _ (s : State) (b c : ℕ) (m n : List ℕ) (F : Passed s (join b c m n)) where
  abbrev k₁ : Cutting
  k₁ = s.job.told.cutting

  -- the places that a seam joins are in their table
  pub seam_inside : (κ : Kind) → Standing s (block_extents k₁ b) b m κ → Standing s (block_extents k₁ c) c n κ → s.job.told.entries κ ≤ length (s.tables.links κ)
      → (x y : ℕ) → AtSeam k₁ s.tables κ b c m n x y → (x < length (s.tables.links κ)) × (y < length (s.tables.links κ))
  seam_inside κ S T l x y r =
      let h = shared_out k₁ b c r.both in
      let w = seam_listed k₁ b c F.placed_in in
      let o : order (block_extents k₁ c) r.cell.to ≡ order_of κ =
      sym (embed_order k₁ F.cut c w.1 r.cell.to h.q_in) ∙ ap (order k₁.extents) (sym h.one_cell) ∙ embed_order k₁ F.cut b w.0 r.cell.from h.p_in ∙ r.level in (
        omega (arith, r.x_is, node_in s (block_extents k₁ b) b m κ S r.cell.from h.p_in r.level r.one, l),
        omega (arith, r.y_is, node_in s (block_extents k₁ c) c n κ T r.cell.to h.q_in o r.two, l),
      )

  seam_merged : (κ : Kind) → Standing s (block_extents k₁ b) b m κ → Standing s (block_extents k₁ c) c n κ → s.job.told.entries κ ≤ length (s.tables.links κ)
      → Merged (s.tables.links κ) (relinked (s.tables.links κ) (seam_edges k₁ s.tables κ b c m n)) (AtSeam k₁ s.tables κ b c m n)
  seam_merged κ S T l =
      relinked_merged (s.tables.links κ) (seam_edges k₁ s.tables κ b c m n)
      (λ e h. seam_inside κ S T l e.from e.to (seam_edges_out k₁ s.tables κ b c m n e h))
      (AtSeam k₁ s.tables κ b c m n) (seam_edges_in k₁ s.tables κ b c m n) (seam_edges_out k₁ s.tables κ b c m n)

  face_links_long : length (s.tables.links Face) ≡ s.job.told.entries Face
  unfolding block_trays link_trays
  face_links_long = fits_at_lem (lent_to s.job.told s.tables (join b c m n)) 2 F.lent

  curve_links_long : length (s.tables.links Curve) ≡ s.job.told.entries Curve
  unfolding block_trays link_trays
  curve_links_long = fits_at_lem (lent_to s.job.told s.tables (join b c m n)) 3 F.lent

  seam_done : SeamDone s b c m n (accepted_state s (join b c m n))
  unfolding accepted_state moved seam_tables
  seam_done =
      let h : map_stands s (block_extents k₁ b) b m ≡ true = and_first (map_stands s (block_extents k₁ b) b m) _ F.stands in
      let i : map_stands s (block_extents k₁ c) c n ≡ true = and_first (map_stands s (block_extents k₁ c) c n) _ (and_second (map_stands s (block_extents k₁ b) b m) _ F.stands) in
      record {
        step = record { told = refl; ticks = refl; stage = refl; sofar = λ κ. refl };
        blocks = refl;
        faces = seam_merged Face (faces_stand_lem s _ b m h) (faces_stand_lem s _ c n i) (omega (arith, face_links_long, tally_fits_lem s.job F.tallies Face));
        curves = seam_merged Curve (curves_stand_lem s _ b m h) (curves_stand_lem s _ c n i) (omega (arith, curve_links_long, tally_fits_lem s.job F.tallies Curve));
        found = λ κ. found_kept refl;
        numbers = λ κ. numbers_kept_lem refl refl;
      }

-- ---- crossing

module _ (s : State) (b : ℕ) (m : List ℕ) (F : Passed s (cross b m)) where
  abbrev k₂ : Cutting
  k₂ = s.job.told.cutting

  -- the lengths of the tables that a crossing writes
  record CrossSizes : Type 0 where
    curve_links : length (s.tables.links Curve) ≡ s.job.told.entries Curve
    face_firsts : length (s.tables.firsts Face) ≡ s.job.told.entries Face
    face_listed : length (s.tables.listed Face) ≡ 2 * s.job.told.entries Face
    curve_firsts : length (s.tables.firsts Curve) ≡ s.job.told.entries Curve
    curve_listed : length (s.tables.listed Curve) ≡ 4 * s.job.told.entries Curve

  cross_sizes : CrossSizes
  unfolding block_trays link_trays kind_trays found_trays number_trays first_trays listed_trays
  cross_sizes =
      let at : (i : ℕ) → _ = λ i. fits_at_lem (lent_to s.job.told s.tables (cross b m)) i F.lent in
      record { curve_links = at 3; face_firsts = at 7; face_listed = at 8; curve_firsts = at 12; curve_listed = at 13 }

  cross_stands : Standing s (block_extents k₂ b) b m Curve
  cross_stands = curves_stand_lem s (block_extents k₂ b) b m (and_first (map_stands s (block_extents k₂ b) b m) _ F.stands)

  -- the places that a crossing joins are in their table
  pub cross_inside : (x y : ℕ) → AtCrossing k₂ s.tables b m x y → (x < length (s.tables.links Curve)) × (y < length (s.tables.links Curve))
  cross_inside x y r =
      let o = of_order_out (block_extents k₂ b) 0 r.cell in
      let u = upper_neighbour (block_extents k₂ b) r.at o.0 r.up_p in
      let v = upper_neighbour (block_extents k₂ b) r.at o.0 r.up_q in
      let l : s.job.told.entries Curve ≤ length (s.tables.links Curve) = omega (arith, cross_sizes.curve_links) in (
        omega (arith, r.x_is, node_in s (block_extents k₂ b) b m Curve cross_stands r.p u.within (u.higher ∙ ap suc o.1) r.one, l),
        omega (arith, r.y_is, node_in s (block_extents k₂ b) b m Curve cross_stands r.q v.within (v.higher ∙ ap suc o.1) r.two, l),
      )

  cross_merged : Merged (s.tables.links Curve) (relinked (s.tables.links Curve) (cross_edges k₂ s.tables b m)) (AtCrossing k₂ s.tables b m)
  cross_merged =
      relinked_merged (s.tables.links Curve) (cross_edges k₂ s.tables b m) (λ e h. cross_inside e.from e.to (cross_edges_out k₂ s.tables b m e h))
      (AtCrossing k₂ s.tables b m) (cross_edges_in k₂ s.tables b m) (cross_edges_out k₂ s.tables b m)

  -- the stage after it
  abbrev stage₂ : Stage
  stage₂ = next_after k₂ (ticked (cross_tables s b m)) s.job.stage

  faces_numbered : NumberedKind s (cross_last s b m) Face (s.job.sofar Face)
  unfolding cross_last moved number_kind instead cross_tables heads leads is_one class_of not_after rank head_of first_at row_final row_at
  faces_numbered =
      numbered_by s (cross_last s b m) Face (s.job.sofar Face) refl refl refl refl
      (omega (arith, cross_sizes.face_firsts, tally_fits_lem s.job F.tallies Face)) (omega (arith, cross_sizes.face_listed, tally_fits_lem s.job F.tallies Face))

  curves_numbered : NumberedKind s (cross_last s b m) Curve (s.job.sofar Curve)
  unfolding cross_last moved number_kind instead cross_tables heads leads is_one class_of not_after rank head_of first_at row_final row_at final_face
  curves_numbered =
      numbered_by s (cross_last s b m) Curve (s.job.sofar Curve) refl refl refl refl
      (omega (arith, cross_sizes.curve_firsts, tally_fits_lem s.job F.tallies Curve)) (omega (arith, cross_sizes.curve_listed, tally_fits_lem s.job F.tallies Curve))

  cross_last_lem : same_stage stage₂ Points ≡ true → CrossingDone s b m (cross_last s b m)
  unfolding cross_last moved number_kind instead cross_tables ticked
  cross_last_lem e = record {
    step = record { told = refl; ticks = refl; stage = refl; sofar = λ κ. refl };
    blocks = refl;
    faces = rooted_refl (s.tables.links Face);
    curves = cross_merged;
    found = λ κ. found_kept refl;
    last = λ _. (faces_numbered, curves_numbered);
    before = λ q. absurd (q (is_stage stage₂ Points e));
    points = numbers_kept_lem refl refl;
  }

  cross_before : same_stage stage₂ Points ≡ false → CrossingDone s b m (moved s (cross b m) (cross_tables s b m) s.job.numbered)
  unfolding moved instead cross_tables ticked
  cross_before e = record {
    step = record { told = refl; ticks = refl; stage = refl; sofar = λ κ. refl };
    blocks = refl;
    faces = rooted_refl (s.tables.links Face);
    curves = cross_merged;
    found = λ κ. found_kept refl;
    last = λ q. absurd (not_stage stage₂ Points e q);
    before = λ _. (numbers_kept_lem refl refl, numbers_kept_lem refl refl);
    points = numbers_kept_lem refl refl;
  }

  cross_done : CrossingDone s b m (accepted_state s (cross b m))
  unfolding accepted_state crossed
  cross_done = picked (CrossingDone s b m) (same_stage stage₂ Points) (cross_last s b m) (moved s (cross b m) (cross_tables s b m) s.job.numbered) cross_last_lem cross_before

-- ---- point

module _ (s : State) (b : ℕ) (m : List ℕ) (F : Passed s (point b m)) where
  abbrev stage₃ : Stage
  stage₃ = next_after s.job.told.cutting (ticked (point_tables s b m)) s.job.stage

  record PointSizes : Type 0 where
    firsts : length (s.tables.firsts Point) ≡ s.job.told.entries Point
    listed : length (s.tables.listed Point) ≡ 6 * s.job.told.entries Point

  point_sizes : PointSizes
  unfolding block_trays number_trays kind_trays found_trays first_trays listed_trays
  point_sizes =
      let at : (i : ℕ) → _ = λ i. fits_at_lem (lent_to s.job.told s.tables (point b m)) i F.lent in
      record { firsts = at 6; listed = at 7 }

  points_numbered : NumberedKind s (point_last s b m) Point (s.job.sofar Point + adds s (point b m) Point)
  unfolding point_last moved number_kind instead point_tables heads leads is_one class_of not_after rank head_of first_at row_final row_at
  points_numbered =
      let r : s.job.sofar Point + adds s (point b m) Point ≤ s.job.told.entries Point = points_room s.job.told.entries s.job.sofar (adds s (point b m)) F.room in
      numbered_by s (point_last s b m) Point (s.job.sofar Point + adds s (point b m) Point) refl refl refl refl
      (omega (arith, point_sizes.firsts, r)) (omega (arith, point_sizes.listed, r))

  -- the state after the step, with such numbers, first positions and rows, and so many of each kind
  abbrev with_closed : (Kind → List ℕ) → (Kind → List ℕ) → (Kind → List ℕ) → (Kind → ℕ) → State
  with_closed numbers firsts listed many =
      let t = point_tables s b m in
      moved s (point b m) (record { ticks = t.ticks; blocks = t.blocks; links = t.links; keys = t.keys; rows = t.rows; numbers = numbers; firsts = firsts; listed = listed }) many

  point_with : (numbers firsts listed : Kind → List ℕ) (many : Kind → ℕ) → let t = with_closed numbers firsts listed many in
      KeptNumbers s t Face → KeptNumbers s t Curve → (stage₃ ≡ Closed → NumberedKind s t Point (s.job.sofar Point + adds s (point b m) Point)) → (stage₃ ≢ Closed → KeptNumbers s t Point)
      → PointDone s b m t
  unfolding moved instead point_tables ticked
  point_with numbers firsts listed many f c last before = record {
    step = record { told = refl; ticks = refl; stage = refl; sofar = λ κ. refl };
    blocks = refl;
    face_links = refl;
    curve_links = refl;
    faces = (found_kept refl, f);
    curves = (found_kept refl, c);
    keys = refl;
    rows = refl;
    last = last;
    before = before;
  }

  point_last_lem : same_stage stage₃ Closed ≡ true → PointDone s b m (point_last s b m)
  unfolding point_last moved number_kind instead point_tables
  point_last_lem e =
      let t = point_last s b m in
      point_with t.tables.numbers t.tables.firsts t.tables.listed t.job.numbered (numbers_kept_lem refl refl) (numbers_kept_lem refl refl)
      (λ _. points_numbered) (λ q. absurd (q (is_stage stage₃ Closed e)))

  point_before : same_stage stage₃ Closed ≡ false → PointDone s b m (moved s (point b m) (point_tables s b m) s.job.numbered)
  unfolding moved point_tables
  point_before e =
      let t = s.tables in
      point_with t.numbers t.firsts t.listed s.job.numbered (numbers_kept_lem refl refl) (numbers_kept_lem refl refl)
      (λ q. absurd (not_stage stage₃ Closed e q)) (λ _. numbers_kept_lem refl refl)

  point_done : PointDone s b m (accepted_state s (point b m))
  unfolding accepted_state pointed
  point_done = picked (PointDone s b m) (same_stage stage₃ Closed) (point_last s b m) (moved s (point b m) (point_tables s b m) s.job.numbered) point_last_lem point_before

-- ---- one call

done_by : (s : State) (c : Call) → Passed s c → Done s c (accepted_answer s c) (accepted_state s c)
unfolding accepted_answer accepted_state
done_by s (enrol b m) F = (refl, enrol_done s b m)
done_by s (join b c m n) F = (refl, seam_done s b c m n F)
done_by s (cross b m) F = (refl, cross_done s b m F)
done_by s (point b m) F = (refl, point_done s b m F)
done_by s (look b m c) F = (refl, refl)
done_by s (reading κ n) F = (refl, refl)

given_none : (s : State) (c : Call) → (accepted_answer s c).refusal ≡ 0
unfolding accepted_answer
given_none s (enrol b m) = refl
given_none s (join b c m n) = refl
given_none s (cross b m) = refl
given_none s (point b m) = refl
given_none s (look b m c) = refl
given_none s (reading κ n) = refl

-- Every call in every state has an outcome.
pub model_step : (s : State) (c : Call) → CallStep s c (answer_of s c) (after s c)
unfolding answer_of after
model_step s c =
    by_test (eqb (refusal s c) 0)
    (λ t.
    let e : refusal s c ≡ 0 = eqb-true (refusal s c) 0 t in
    rw t (record { told = given_none s c ∙ sym e; declined = λ n. absurd (n e); accepted = λ _. done_by s c (passed s c e) }))
    (λ t. rw t (record { told = refl; declined = λ _. (refl, refl); accepted = λ e. absurd (eqb-false (refusal s c) 0 t e) }))

-- .. and every opening.
pub model_opens : (o : Told) (lent : Tables) → (open_refusal o lent ≢ 0 → Unopened o lent (opened_state o lent)) × (open_refusal o lent ≡ 0 → Opened o lent (opened_state o lent))
unfolding opened_state fresh_job cleared nothing
model_opens o lent =
    by_test (eqb (open_refusal o lent) 0)
    (λ t.
    let e : open_refusal o lent ≡ 0 = eqb-true (open_refusal o lent) 0 t in
    rw t (
      λ n. absurd (n e),
      λ _. record {
        accepted = e;
        told = refl;
        fresh = record { stage = refl; sofar = λ κ. refl; numbered = λ κ. refl };
        tables = record { ticks = refl; blocks = refl; links = λ κ. refl; keys = λ κ. refl; rows = λ κ. refl; numbers = λ κ. refl; firsts = λ κ. refl; listed = λ κ. refl };
      },
    ))
    (λ t.
    rw t (
      λ _. record { extents = refl; entries = λ κ. refl; fresh = record { stage = refl; sofar = λ κ. refl; numbered = λ κ. refl }; tables = refl },
      λ e. absurd (eqb-false (open_refusal o lent) 0 t e),
    ))
