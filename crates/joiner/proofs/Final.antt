-- After the last crossing: the numbers of the tables are those of the uncut volume, and so are the points that a step finds.
-- Assumes nothing.
use mathlib.Core.Bool.{true}
use mathlib.Core.List.Memᴰ
use mathlib.Core.List.{List, Memᴰ}
use mathlib.Core.Logic.{◌↔◌, inl, inr}
use mathlib.Core.Path.{◌∙◌, ◌≡◌, ap, ap₂, refl, subst, sym}
use Prim.Native.Nat.{◌%◌, ◌*◌, ◌+◌, ◌/◌, ◌<◌, ◌≤◌, suc, ℕ}
use native.Mathlib.Nat.{zero-add}
use native.Mathlib.Omega.{arith}
use lib.ListN.{get_or, length, take}
use Rattle.lists.specs.Lists.{keep, overlay, tabulate}
use Rattle.closure.specs.Joined.{edge}
use Rattle.cells.specs.Grid.{cells, order, upper_neighbours}
use Rattle.cells.specs.Row.{active, occupied, row, row_of}
use Rattle.union_find.specs.Links.{root}
use Rattle.labels.specs.Components.{component_row, first_cell, largest, of_order}
use Rattle.labels.specs.Number.{labels}
use Rattle.cutting.specs.Cutting.{block_codes, block_extents, blocks, embed, good_cut, seam}
use Rattle.cutting.specs.Nodes.{part, uncut_map}
use Rattle.joiner.specs.Book.{Book, book_adds, uncut}
use Rattle.joiner.specs.Calls.{point}
use Rattle.joiner.specs.Declines.{adds, final_of, final_row, point_cells}
use Rattle.joiner.specs.Outcomes.{AtCrossing, AtSeam, NumberedKind, PointDone, enrolled_row, head_of, rank, row_at, row_final, shifted}
use Rattle.joiner.specs.Job.{Crossing, Curve, Enrol, Face, Kind, Point, Points, Seam, State, Told, first_at, from_of, key_of, node, order_of, stage_number, width}
use Rattle.joiner.specs.Stages.{codes_of, crossing_step, enrol_step, point_step, seam_step, steps_of}
use Rattle.joiner.specs.Statement.{Labelling}
use Rattle.lists.proofs.Lists.{consecutive_in, get_or-in, get_or_tabulate, map_same, tabulate_same}
use Rattle.lists.proofs.Overlay.{length-overlay, overlay_at, overlay_same}
use Rattle.lists.proofs.Table.{every}
use Rattle.lists.proofs.Tests.{keep_same}
use Rattle.cells.proofs.GridLaws.{Upper, upper_neighbour}
use Rattle.labels.proofs.ComponentLaws.{of_order_out}
use Rattle.labels.proofs.LabelLaws.{labels_numbering}
use Rattle.cutting.proofs.BlockLaws.{face_row, row_through_lem}
use Rattle.joiner.proofs.Classes.{ByEither, BySeam, Layout, NodeAt, curve_classes, face_classes, first_sees, order_small, vol}
use Rattle.joiner.proofs.Codes.{codes_same, own_part}
use Rattle.joiner.proofs.Linking.{Within}
use Rattle.joiner.proofs.Inv.{EdgeDone, In, Inv, Kept, Numbered, SeamEdge}
use Rattle.joiner.proofs.FoundPoints.{MorePoints, PointsSo, cell_out, point_rows, points_of, ranked_points}
use Rattle.joiner.proofs.Ranked.{HeadOf, Ranked, head_of_lem, heads_total, rank_is}
use Rattle.joiner.proofs.FinalRanks.{ranked_joined}
use Rattle.joiner.proofs.Roots.{together_map}
use Rattle.joiner.proofs.RowsFinal.{component_row_first, curve_kept, final_cell}
use Rattle.joiner.proofs.SeamSteps.{seam_in}
use Rattle.joiner.proofs.Shared.{seam_listed}

row_index : (κ : Kind) (i n : ℕ) → i < width κ * n → (i / width κ < n) × (i % width κ < width κ)
row_index Face i n h = (omega arith, omega arith)
row_index Curve i n h = (omega arith, omega arith)
row_index Point i n h = (omega arith, omega arith)

module _ (o : Told) (own : ℕ → List ℕ) (good : good_cut o.cutting ≡ true) (lab : (b : ℕ) → b < blocks o.cutting → Labelling (block_extents o.cutting b) (own b)) where
  abbrev pub handed_codes : List ℕ
  handed_codes = codes_of o.cutting own

  abbrev pub volume_map : List ℕ
  volume_map = uncut_map o.cutting handed_codes

  -- what the tables hold of one kind once it is numbered
  pub record Final (s : State) (κ : Kind) : Type 0 where
    pub numbers : (x : ℕ) → x < s.job.sofar κ → get_or (s.tables.numbers κ) x 0 ≡ vol o.cutting handed_codes s.tables κ x
    pub within : Within s κ
    pub total : s.job.numbered κ ≡ largest o.cutting.extents volume_map (order_of κ)
    pub firsts : take (s.job.numbered κ) (s.tables.firsts κ) ≡ tabulate (s.job.numbered κ) (λ i. first_cell o.cutting.extents volume_map (order_of κ) (suc i))
    pub rows : take (width κ * s.job.numbered κ) (s.tables.listed κ)
        ≡ tabulate (width κ * s.job.numbered κ) (λ i. get_or (component_row o.cutting.extents volume_map (order_of κ) (suc (i / width κ))) (i % width κ) 0)

  -- numbered by rank, from rows that are the volume's
  module _ (s₀ s : State) (κ : Kind) (n : ℕ) (tally : s.job.sofar κ ≡ n) (long : length (s.tables.numbers κ) ≡ o.entries κ) (room : n ≤ o.entries κ)
      (R : Ranked s.tables κ n (vol o.cutting handed_codes s.tables κ) (λ N. first_cell o.cutting.extents volume_map (order_of κ) N) (largest o.cutting.extents volume_map (order_of κ)))
      (rows_are : (x : ℕ) → x < n → (i : ℕ) → i < width κ → get_or (row_final s.tables κ x) i 0 ≡ get_or (row o.cutting.extents volume_map (first_at s.tables κ x)) i 0)
      (N : NumberedKind s₀ s κ n) where
    total' : s.job.numbered κ ≡ largest o.cutting.extents volume_map (order_of κ)
    total' = N.total ∙ heads_total s.tables κ n _ _ _ R

    head_at : (i : ℕ) → i < s.job.numbered κ → HeadOf s.tables κ n _ _ _ R (suc i)
    head_at i h = head_of_lem s.tables κ n _ _ _ R (suc i) (omega arith) (omega (arith, h, total'))

    numbers' : (x : ℕ) → x < n → get_or (s.tables.numbers κ) x 0 ≡ vol o.cutting handed_codes s.tables κ x
    numbers' x h =
        let l : n ≤ length (s₀.tables.numbers κ) = omega (arith, room, long, ap length N.numbers, length-overlay (s₀.tables.numbers κ) 0 (rank s.tables κ n) n) in
        ap₂ (λ (r : List ℕ) (j : ℕ). get_or r j 0) N.numbers (sym (zero-add x))
        ∙ overlay_at (s₀.tables.numbers κ) 0 (rank s.tables κ n) n x h (omega arith)
        ∙ rank_is s.tables κ n _ _ _ R x h

    row_here : (i : ℕ) → i < width κ * s.job.numbered κ
        → get_or (row_final s.tables κ (head_of s.tables κ n (suc (i / width κ)))) (i % width κ) 0 ≡ get_or (component_row o.cutting.extents volume_map (order_of κ) (suc (i / width κ))) (i % width κ) 0
    row_here i h =
        let q = row_index κ i (s.job.numbered κ) h in
        let a = head_at (i / width κ) q.0 in
        rows_are (head_of s.tables κ n (suc (i / width κ))) a.below (i % width κ) q.1
        ∙ ap (λ (p : ℕ). get_or (row o.cutting.extents volume_map p) (i % width κ) 0) a.first_is
        ∙ ap (λ (l : List ℕ). get_or l (i % width κ) 0) (sym (component_row_first o.cutting.extents handed_codes volume_map (labels_numbering o.cutting.extents handed_codes) (order_of κ) (order_small κ) (suc (i / width κ)) (omega arith) (omega (arith, q.0, total'))))

    pub final_of_lem : Final s κ
    final_of_lem =
        record {
          numbers = λ x h. numbers' x (omega (arith, h, tally));
          within = λ x h. let k : x < n = omega (arith, h, tally) in (omega (arith, numbers' x k, R.positive x k), omega (arith, numbers' x k, R.most x k, total'));
          total = total';
          firsts = N.firsts ∙ tabulate_same (s.job.numbered κ) _ _ (λ i h. (head_at i h).first_is);
          rows = N.listed ∙ tabulate_same (width κ * s.job.numbered κ) _ _ row_here;
        }

  module _ (B : Book) (s : State) (I : Inv o own B s) (late : stage_number Points ≤ stage_number B.stage) where
    in_all : (b : ℕ) → b < blocks o.cutting → In o own B b
    in_all b hb = I.progress.all_done Enrol (omega (arith, late)) (enrol_step b) (unfold steps_of in Memᴰ.map enrol_step (consecutive_in 0 (blocks o.cutting) (omega arith) (omega (arith, hb))))

    seams_all : (b c : ℕ) → seam o.cutting b c ≡ true → Memᴰ (seam_step o.cutting (edge b c)) B.done
    seams_all b c z = I.progress.all_done Seam (omega (arith, late)) (seam_step o.cutting (edge b c)) (seam_in o.cutting b c z)

    crossings_all : (b : ℕ) → b < blocks o.cutting → Memᴰ (crossing_step b) B.done
    crossings_all b hb = I.progress.all_done Crossing (omega (arith, late)) (crossing_step b) (unfold steps_of in Memᴰ.map crossing_step (consecutive_in 0 (blocks o.cutting) (omega arith) (omega (arith, hb))))

    -- the blocks' maps are those of one volume
    pub part_is : (b : ℕ) → b < blocks o.cutting → own b ≡ part o.cutting handed_codes b
    part_is b hb = own_part o.cutting good own (λ b c z. I.layers b c z (seams_all b c z)) b hb (lab b hb)

    pub uncut_is : uncut B ≡ volume_map
    unfolding uncut
    uncut_is =
        ap (λ (z : Told). labels z.cutting.extents (codes_of z.cutting B.maps)) I.btold
        ∙ ap (labels o.cutting.extents) (codes_same o.cutting good B.maps own (λ b hb. I.maps b hb (in_all b hb)))

    pub layout : (κ : Kind) → Kept o own B s κ → Layout o.cutting handed_codes s.tables κ (s.job.sofar κ)
    unfolding node
    layout κ J =
        record {
          inside = λ b m hb h0 hm. omega (arith, back b hb m hm, J.from_in b hb (in_all b hb));
          cover = λ x h.
              let w : Numbered o own B s κ x = J.cover x h in
              record { b = w.b; m = w.m; listed = w.listed; positive = w.positive; most = subst (λ (l : List ℕ). w.m ≤ largest (block_extents o.cutting w.b) l (order_of κ)) (part_is w.b w.listed) w.most; is = w.is };
          seen = λ b m hb h0 hm. J.seen b m hb (in_all b hb) h0 (back b hb m hm) ∙ ap (λ (l : List ℕ). embed o.cutting b (first_cell (block_extents o.cutting b) l (order_of κ) m)) (part_is b hb);
        }
      where
        back : (b : ℕ) → b < blocks o.cutting → (m : ℕ) → m ≤ largest (block_extents o.cutting b) (part o.cutting handed_codes b) (order_of κ) → m ≤ largest (block_extents o.cutting b) (own b) (order_of κ)
        back b hb m hm = subst (λ (l : List ℕ). m ≤ largest (block_extents o.cutting b) l (order_of κ)) (sym (part_is b hb)) hm

    seam_to : (κ : Kind) (x y : ℕ) → SeamEdge o own B s κ x y → BySeam o.cutting handed_codes s.tables κ x y
    seam_to κ x y e =
        let l = seam_listed o.cutting e.b e.c e.joint in
        record {
          b = e.b;
          c = e.c;
          joint = e.joint;
          at = subst (λ (n : List ℕ). AtSeam o.cutting s.tables κ e.b e.c (part o.cutting handed_codes e.b) n x y) (part_is e.c l.1)
              (subst (λ (m : List ℕ). AtSeam o.cutting s.tables κ e.b e.c m (own e.c) x y) (part_is e.b l.0) e.at);
        }

    seam_from : (κ : Kind) (x y : ℕ) → BySeam o.cutting handed_codes s.tables κ x y → SeamEdge o own B s κ x y
    seam_from κ x y e =
        let l = seam_listed o.cutting e.b e.c e.joint in
        record {
          b = e.b;
          c = e.c;
          joint = e.joint;
          ticked_in_lem = seams_all e.b e.c e.joint;
          at = subst (λ (n : List ℕ). AtSeam o.cutting s.tables κ e.b e.c (own e.b) n x y) (sym (part_is e.c l.1))
              (subst (λ (m : List ℕ). AtSeam o.cutting s.tables κ e.b e.c m (part o.cutting handed_codes e.c) x y) (sym (part_is e.b l.0)) e.at);
        }

    either_to : (x y : ℕ) → EdgeDone o own B s Curve x y → ByEither o.cutting handed_codes s.tables x y
    either_to x y (inl e) = inl (seam_to Curve x y e)
    either_to x y (inr e) = inr (record { b = e.b; listed = e.listed; at = subst (λ (m : List ℕ). AtCrossing o.cutting s.tables e.b m x y) (part_is e.b e.listed) e.at })

    either_from : (x y : ℕ) → ByEither o.cutting handed_codes s.tables x y → EdgeDone o own B s Curve x y
    either_from x y (inl e) = inl (seam_from Curve x y e)
    either_from x y (inr e) = inr (record { b = e.b; listed = e.listed; ticked_in_lem = crossings_all e.b e.listed; at = subst (λ (m : List ℕ). AtCrossing o.cutting s.tables e.b m x y) (sym (part_is e.b e.listed)) e.at })

    faces_one : (x y : ℕ) → x < s.job.sofar Face → y < s.job.sofar Face → (root (s.tables.links Face) x ≡ root (s.tables.links Face) y) ↔ (vol o.cutting handed_codes s.tables Face x ≡ vol o.cutting handed_codes s.tables Face y)
    faces_one =
        face_classes o.cutting good handed_codes s.tables (s.job.sofar Face) (layout Face I.faces)
        (record { one = λ x y hx hy. ((λ e. together_map (seam_to Face) ((I.faces.linked.one x y hx hy).0 e)), (λ l. (I.faces.linked.one x y hx hy).1 (together_map (seam_from Face) l))); sound = I.faces.linked.sound })

    curves_one : (x y : ℕ) → x < s.job.sofar Curve → y < s.job.sofar Curve → (root (s.tables.links Curve) x ≡ root (s.tables.links Curve) y) ↔ (vol o.cutting handed_codes s.tables Curve x ≡ vol o.cutting handed_codes s.tables Curve y)
    curves_one =
        curve_classes o.cutting good handed_codes s.tables (s.job.sofar Face) (s.job.sofar Curve) (layout Face I.faces) (layout Curve I.curves) faces_one
        (record { one = λ x y hx hy. ((λ e. together_map either_to ((I.curves.linked.one x y hx hy).0 e)), (λ l. (I.curves.linked.one x y hx hy).1 (together_map either_from l))); sound = I.curves.linked.sound })

    -- the rows kept at enrolment
    part_row : (κ : Kind) (b m : ℕ) → b < blocks o.cutting → 0 < m → m ≤ largest (block_extents o.cutting b) (own b) (order_of κ)
        → component_row (block_extents o.cutting b) (own b) (order_of κ) m ≡ row (block_extents o.cutting b) (part o.cutting handed_codes b) (first_cell (block_extents o.cutting b) (part o.cutting handed_codes b) (order_of κ) m)
    part_row κ b m hb h0 hm =
        ap (λ (l : List ℕ). component_row (block_extents o.cutting b) l (order_of κ) m) (part_is b hb)
        ∙ component_row_first (block_extents o.cutting b) (block_codes o.cutting b handed_codes) (part o.cutting handed_codes b) (labels_numbering (block_extents o.cutting b) (block_codes o.cutting b handed_codes)) (order_of κ) (order_small κ) m h0
        (subst (λ (l : List ℕ). m ≤ largest (block_extents o.cutting b) l (order_of κ)) (part_is b hb) hm)

    -- where an enrolled component stands, and its kept row
    record Stored (κ : Kind) (x : ℕ) : Type 0 where
      b : ℕ
      p : ℕ
      listed : b < blocks o.cutting
      within : p < cells (block_extents o.cutting b)
      level : order (block_extents o.cutting b) p ≡ order_of κ
      first_at_lem : first_at s.tables κ x ≡ embed o.cutting b p
      row_at_lem : (i : ℕ) → i < width κ → get_or (s.tables.rows κ) (width κ * x + i) 0 ≡ shifted (from_of s.tables Face b) κ (get_or (row (block_extents o.cutting b) (part o.cutting handed_codes b) p) i 0)

    stored : (κ : Kind) → Kept o own B s κ → (x : ℕ) → x < s.job.sofar κ → Stored κ x
    unfolding enrolled_row
    stored κ J x hx =
        let w : NodeAt o.cutting handed_codes s.tables κ x = (layout κ J).cover x hx in
        let hm : w.m ≤ largest (block_extents o.cutting w.b) (own w.b) (order_of κ) = subst (λ (l : List ℕ). w.m ≤ largest (block_extents o.cutting w.b) l (order_of κ)) (sym (part_is w.b w.listed)) w.most in
        let q = first_sees o.cutting good handed_codes κ w.b w.m w.listed w.positive w.most in
        record {
          b = w.b;
          p = first_cell (block_extents o.cutting w.b) (part o.cutting handed_codes w.b) (order_of κ) w.m;
          listed = w.listed;
          within = q.within;
          level = q.level;
          first_at_lem = ap (first_at s.tables κ) w.is ∙ (layout κ J).seen w.b w.m w.listed w.positive w.most;
          row_at_lem = λ i hi.
              ap (λ (y : ℕ). get_or (s.tables.rows κ) (width κ * y + i) 0) w.is
              ∙ J.rows w.b w.m i w.listed (in_all w.b w.listed) w.positive hm hi
              ∙ ap (λ (l : List ℕ). shifted (from_of s.tables Face w.b) κ (get_or l i 0)) (part_row κ w.b w.m w.listed w.positive hm);
        }

    face_rows : (x : ℕ) → x < s.job.sofar Face → (i : ℕ) → i < 2 → get_or (row_final s.tables Face x) i 0 ≡ get_or (row o.cutting.extents volume_map (first_at s.tables Face x)) i 0
    unfolding row_final row_at shifted
    face_rows x hx i hi =
        let w = stored Face I.faces x hx in
        get_or_tabulate 2 (λ j. get_or (s.tables.rows Face) (2 * x + j) 0) i hi
        ∙ w.row_at_lem i hi
        ∙ ap (λ (l : List ℕ). get_or l i 0) (face_row o.cutting good handed_codes w.b w.listed w.p w.within w.level)
        ∙ ap (λ (y : ℕ). get_or (row o.cutting.extents volume_map y) i 0) (sym w.first_at_lem)

    curve_rows : Final s Face → (x : ℕ) → x < s.job.sofar Curve → (i : ℕ) → i < 4 → get_or (row_final s.tables Curve x) i 0 ≡ get_or (row o.cutting.extents volume_map (first_at s.tables Curve x)) i 0
    curve_rows fin x hx i hi =
        let w = stored Curve I.curves x hx in
        curve_kept o.cutting good handed_codes s.tables (s.job.sofar Face) (layout Face I.faces) fin.numbers w.b w.listed w.p w.within w.level x w.row_at_lem i hi
        ∙ ap (λ (y : ℕ). get_or (row o.cutting.extents volume_map y) i 0) (sym w.first_at_lem)

    room_for : (κ : Kind) → s.job.sofar κ ≤ o.entries κ
    room_for κ = omega (arith, I.sofar κ, I.room κ)

    -- what the last crossing leaves
    pub finals : (s₀ : State) → NumberedKind s₀ s Face (s.job.sofar Face) × NumberedKind s₀ s Curve (s.job.sofar Curve) → Final s Face × Final s Curve
    finals s₀ N =
        let f : Final s Face =
        final_of_lem s₀ s Face (s.job.sofar Face) refl (I.sizes.numbers_long Face) (room_for Face) (ranked_joined o.cutting good handed_codes s.tables Face (omega arith) (s.job.sofar Face) (layout Face I.faces) faces_one) face_rows N.0 in
        (f, final_of_lem s₀ s Curve (s.job.sofar Curve) refl (I.sizes.numbers_long Curve) (room_for Curve) (ranked_joined o.cutting good handed_codes s.tables Curve (omega arith) (s.job.sofar Curve) (layout Curve I.curves) curves_one) (curve_rows f) N.1)

    -- what the last point step leaves
    pub final_points : (s₀ : State) → PointsSo o.cutting good handed_codes s.tables B.done (s.job.sofar Point) → ((b : ℕ) → b < blocks o.cutting → Memᴰ (point_step b) B.done) → NumberedKind s₀ s Point (s.job.sofar Point) → Final s Point
    unfolding vol
    final_points s₀ P every N =
        final_of_lem s₀ s Point (s.job.sofar Point) refl (I.sizes.numbers_long Point) (room_for Point) (ranked_points o.cutting good handed_codes s.tables B.done (s.job.sofar Point) P every) (point_rows o.cutting good handed_codes s.tables B.done (s.job.sofar Point) P) N

    -- ---- points

    module _ (fin : Final s Curve) (b : ℕ) (hb : b < blocks o.cutting) where
      row_final_lem : (p : ℕ) → p < cells (block_extents o.cutting b) → order (block_extents o.cutting b) p ≡ 0 → final_row o.cutting s.tables b (own b) p ≡ row o.cutting.extents volume_map (embed o.cutting b p)
      unfolding final_row
      row_final_lem p hp l =
          ap row_of
          (map_same (λ q. final_of s.tables Curve b (get_or (own b) q 0)) (λ q. get_or volume_map (embed o.cutting b q) 0) (upper_neighbours (block_extents o.cutting b) p)
          (λ q m.
          let u : Upper (block_extents o.cutting b) p q = upper_neighbour (block_extents o.cutting b) p hp m in
          ap (λ (z : List ℕ). final_of s.tables Curve b (get_or z q 0)) (part_is b hb)
          ∙ final_cell o.cutting good handed_codes s.tables Curve (omega arith) (s.job.sofar Curve) (layout Curve I.curves) fin.numbers b hb q u.within (u.higher ∙ ap suc l)))
          ∙ sym (row_through_lem o.cutting good b hb volume_map p hp)

      -- the points found in the block are those of the uncut volume
      pub cells_final : point_cells o.cutting s.tables b (own b) ≡ points_of o.cutting good handed_codes b
      unfolding point_cells active points_of
      cells_final =
          keep_same (λ p. occupied (final_row o.cutting s.tables b (own b) p)) (λ p. occupied (row o.cutting.extents volume_map (embed o.cutting b p))) (of_order (block_extents o.cutting b) 0)
          (λ p m. let r = of_order_out (block_extents o.cutting b) 0 m in ap occupied (row_final_lem p r.0 r.1))

      pub point_adds : (κ : Kind) → adds s (point b (own b)) κ ≡ book_adds B (point b (own b)) κ
      unfolding adds book_adds points_of
      point_adds Face = refl
      point_adds Curve = refl
      point_adds Point =
          ap (λ (z : Told). length (point_cells z.cutting s.tables b (own b))) I.told
          ∙ ap length cells_final
          ∙ ap (λ (u : List ℕ). length (keep (λ p. active o.cutting.extents u (embed o.cutting b p)) (of_order (block_extents o.cutting b) 0))) (sym uncut_is)
          ∙ ap (λ (z : Told). length (keep (λ p. active z.cutting.extents (uncut B) (embed z.cutting b p)) (of_order (block_extents z.cutting b) 0))) (sym I.btold)

      -- what a point step leaves: the points of one more block
      pub more_points : (t : State) → PointDone s b (own b) t → s.job.sofar Point + adds s (point b (own b)) Point ≤ o.entries Point → MorePoints o.cutting good handed_codes s.tables t.tables b (s.job.sofar Point)
      unfolding adds
      more_points t D room =
          record {
            keys = D.keys ∙ ap₂ (λ (z : Told) (l : List ℕ). overlay (s.tables.keys Point) (s.job.sofar Point) (λ i. key_of (embed z.cutting b (get_or l i 0)) b) (length l)) I.told found;
            rows = D.rows ∙ ap₂ (λ (z : Told) (l : List ℕ). overlay (s.tables.rows Point) (6 * s.job.sofar Point) (λ i. get_or (final_row z.cutting s.tables b (own b) (get_or l (i / 6) 0)) (i % 6) 0) (6 * length l)) I.told found ∙ same_rows;
            keys_room = omega (arith, room, many, I.sizes.keys_long Point);
            rows_room = omega (arith, room, many, I.sizes.rows_long Point);
          }
        where
          found : point_cells s.job.told.cutting s.tables b (own b) ≡ points_of o.cutting good handed_codes b
          found = ap (λ (z : Told). point_cells z.cutting s.tables b (own b)) I.told ∙ cells_final

          many : length (point_cells s.job.told.cutting s.tables b (own b)) ≡ length (points_of o.cutting good handed_codes b)
          many = ap length found

          -- the rows of the found cells, each below the list's end
          same_rows : overlay (s.tables.rows Point) (6 * s.job.sofar Point) (λ i. get_or (final_row o.cutting s.tables b (own b) (get_or (points_of o.cutting good handed_codes b) (i / 6) 0)) (i % 6) 0) (6 * length (points_of o.cutting good handed_codes b))
              ≡ overlay (s.tables.rows Point) (6 * s.job.sofar Point) (λ i. get_or (row o.cutting.extents volume_map (embed o.cutting b (get_or (points_of o.cutting good handed_codes b) (i / 6) 0))) (i % 6) 0) (6 * length (points_of o.cutting good handed_codes b))
          same_rows =
              overlay_same (s.tables.rows Point) (6 * s.job.sofar Point) _ _ (6 * length (points_of o.cutting good handed_codes b))
              (λ i h.
              let q = row_index Point i (length (points_of o.cutting good handed_codes b)) h in
              let c = cell_out o.cutting good handed_codes b (get_or (points_of o.cutting good handed_codes b) (i / 6) 0) (get_or-in (points_of o.cutting good handed_codes b) (i / 6) q.0) in
              ap (λ (l : List ℕ). get_or l (i % 6) 0) (row_final_lem (get_or (points_of o.cutting good handed_codes b) (i / 6) 0) c.within c.level))
