-- What the steps after enrolment have in common: blocks and what is enrolled stay.
-- Assumes nothing.
use mathlib.Core.Bool.{false, true}
use mathlib.Core.List.{List, Memᴰ, ◌∷◌}
use mathlib.Core.Logic.{◌≢◌, inl, inr}
use mathlib.Core.Path.{◌∙◌, ◌≡◌, ap, ap₂, subst, sym}
use Prim.Native.Nat.{◌*◌, ◌+◌, ◌-◌, ◌<◌, ◌≤◌, suc, ℕ}
use native.Mathlib.Omega.{arith}
use lib.ListN.{get_or}
use Rattle.lists.specs.Lists.{some_of}
use Rattle.closure.specs.Joined.{edge}
use Rattle.cells.specs.declared.Triple.{Triple}
use Rattle.cells.specs.Grid.{cells, order}
use Rattle.labels.specs.Components.{largest}
use Rattle.cutting.specs.Cutting.{Cutting, block_extents, blocks, good_cut, seam}
use Rattle.joiner.specs.Book.{Book, book_adds, entered}
use Rattle.joiner.specs.Calls.{Call, differs}
use Rattle.joiner.specs.Declines.{adds}
use Rattle.joiner.specs.Outcomes.{AtCrossing, AtSeam, KeptFound, Ticked, enrolled_row, joined_row}
use Rattle.joiner.specs.Job.{Curve, Face, Kind, Point, State, Tables, Told, column, count_of, first_at, from_of, key_position, node, numbers_per_block, order_of, ticks_per_block, width}
use Rattle.joiner.specs.Stages.{seam_step, shared, steps_of}
use Rattle.lists.proofs.Table.{every}
use Rattle.cells.proofs.GridLaws.{Upper, upper_neighbour}
use Rattle.labels.proofs.ComponentLaws.{of_order_out}
use Rattle.labels.proofs.CountLaws.{largest_bound}
use Rattle.cutting.proofs.CutLaws.{embed_order}
use Rattle.joiner.proofs.Accepted.{progress_kept, room_kept, sofar_kept, stage_kept, ticks_kept, told_kept}
use Rattle.joiner.proofs.Inv.{EdgeDone, In, Inv, Kept, Numbered, SeamEdge}
use Rattle.joiner.proofs.Roots.{Connected}
use Rattle.joiner.proofs.Shared.{Shares, seam_listed, shared_out}
use Rattle.joiner.proofs.Sizes.{Sizes}
use Rattle.joiner.proofs.Passed.{Passed}

-- ---- edges carried from tables to tables that have the same offsets

pub move_seam : {k : Cutting} (u v : Tables) {κ : Kind} {b c : ℕ} {m n : List ℕ} {x y : ℕ} → ((d i : ℕ) → node u κ d i ≡ node v κ d i) → AtSeam k u κ b c m n x y → AtSeam k v κ b c m n x y
move_seam u v {κ} {b} {c} {m} {n} e a =
    record { cell = a.cell; both = a.both; level = a.level; one = a.one; two = a.two; x_is = a.x_is ∙ e b (get_or m a.cell.from 0); y_is = a.y_is ∙ e c (get_or n a.cell.to 0) }

pub move_cross : {k : Cutting} (u v : Tables) {b : ℕ} {m : List ℕ} {x y : ℕ} → ((d i : ℕ) → node u Curve d i ≡ node v Curve d i)
    → ((p : ℕ) → p < cells (block_extents k b) → order (block_extents k b) p ≡ 1 → joined_row k u b m p ≡ joined_row k v b m p) → AtCrossing k u b m x y → AtCrossing k v b m x y
move_cross {k} u v {b} {m} e r a =
    let w = of_order_out (block_extents k b) 0 a.cell in
    let up_p : Upper (block_extents k b) a.at a.p = upper_neighbour (block_extents k b) a.at w.0 a.up_p in
    let up_q : Upper (block_extents k b) a.at a.q = upper_neighbour (block_extents k b) a.at w.0 a.up_q in
    record {
      at = a.at;
      p = a.p;
      q = a.q;
      cell = a.cell;
      up_p = a.up_p;
      up_q = a.up_q;
      one = a.one;
      two = a.two;
      rows = sym (r a.p up_p.within (up_p.higher ∙ ap suc w.1)) ∙ a.rows ∙ r a.q up_q.within (up_q.higher ∙ ap suc w.1);
      x_is = a.x_is ∙ e b (get_or m a.p 0);
      y_is = a.y_is ∙ e b (get_or m a.q 0);
    }

module _ (o : Told) (own : ℕ → List ℕ) (good : good_cut o.cutting ≡ true) (B : Book) (s : State) (I : Inv o own B s) (every : (b : ℕ) → b < blocks o.cutting → In o own B b) where
  -- ---- where an edge stands

  pub inside_at : (κ : Kind) → Kept o own B s κ → (b p : ℕ) → b < blocks o.cutting → p < cells (block_extents o.cutting b) → order (block_extents o.cutting b) p ≡ order_of κ → get_or (own b) p 0 ≢ 0
      → node s.tables κ b (get_or (own b) p 0) < s.job.sofar κ
  unfolding node
  inside_at κ J b p hb hp l z =
      let m : get_or (own b) p 0 ≤ largest (block_extents o.cutting b) (own b) (order_of κ) = subst (λ (j : ℕ). get_or (own b) p 0 ≤ largest (block_extents o.cutting b) (own b) j) l (largest_bound (block_extents o.cutting b) (own b) p hp) in
      omega (arith, m, z, J.from_in b hb (every b hb))

  pub seam_inside : (κ : Kind) → Kept o own B s κ → (b c : ℕ) → seam o.cutting b c ≡ true → (x y : ℕ) → AtSeam o.cutting s.tables κ b c (own b) (own c) x y → (x < s.job.sofar κ) × (y < s.job.sofar κ)
  seam_inside κ J b c z x y a =
      let l = seam_listed o.cutting b c z in
      let r : Shares o.cutting b c a.cell.from a.cell.to = shared_out o.cutting b c a.both in
      let q : order (block_extents o.cutting c) a.cell.to ≡ order_of κ =
      sym (embed_order o.cutting good c l.1 a.cell.to r.q_in) ∙ ap (order o.cutting.extents) (sym r.one_cell) ∙ embed_order o.cutting good b l.0 a.cell.from r.p_in ∙ a.level in (
        subst (λ (u : ℕ). u < s.job.sofar κ) (sym a.x_is) (inside_at κ J b a.cell.from l.0 r.p_in a.level a.one),
        subst (λ (u : ℕ). u < s.job.sofar κ) (sym a.y_is) (inside_at κ J c a.cell.to l.1 r.q_in q a.two),
      )

  pub cross_inside : (b : ℕ) → b < blocks o.cutting → (x y : ℕ) → AtCrossing o.cutting s.tables b (own b) x y → (x < s.job.sofar Curve) × (y < s.job.sofar Curve)
  cross_inside b hb x y a =
      let e : Triple = block_extents o.cutting b in
      let w = of_order_out e 0 a.cell in
      let up_p : Upper e a.at a.p = upper_neighbour e a.at w.0 a.up_p in
      let up_q : Upper e a.at a.q = upper_neighbour e a.at w.0 a.up_q in (
        subst (λ (u : ℕ). u < s.job.sofar Curve) (sym a.x_is) (inside_at Curve I.curves b a.p hb up_p.within (up_p.higher ∙ ap suc w.1) a.one),
        subst (λ (u : ℕ). u < s.job.sofar Curve) (sym a.y_is) (inside_at Curve I.curves b a.q hb up_q.within (up_q.higher ∙ ap suc w.1) a.two),
      )

  pub edge_inside : (κ : Kind) (x y : ℕ) → EdgeDone o own B s κ x y → Kept o own B s κ → (x < s.job.sofar κ) × (y < s.job.sofar κ)
  edge_inside Face x y e J = seam_inside Face J e.b e.c e.joint x y e.at
  edge_inside Curve x y (inl e) J = seam_inside Curve J e.b e.c e.joint x y e.at
  edge_inside Curve x y (inr e) J = cross_inside e.b e.listed x y e.at
  edge_inside Point x y e J = absurd e

  -- ---- a step that keeps blocks and what is enrolled

  pub record Later (t : State) (c : Call) (step : ℕ) : Type 0 where
    pub ticking : Ticked s t c step
    pub same_blocks : t.tables.blocks ≡ s.tables.blocks
    pub same_faces : KeptFound s t Face
    pub same_curves : KeptFound s t Curve
    pub same_adds : (κ : Kind) → adds s c κ ≡ book_adds B c κ
    pub no_faces : adds s c Face ≡ 0
    pub no_curves : adds s c Curve ≡ 0
    pub step_in : Memᴰ step (steps_of o.cutting B.stage)
    pub step_low : step < ticks_per_block * blocks o.cutting
    pub pass : Passed s c
    pub sizes : Sizes o t.tables

  module _ (t : State) (c : Call) (step : ℕ) (L : Later t c step) where
    abbrev pub after : Book
    after = entered B step B.maps (book_adds B c)

    pub same_sofar : (κ : Kind) → adds s c κ ≡ 0 → t.job.sofar κ ≡ s.job.sofar κ
    same_sofar κ z = omega (arith, L.ticking.sofar κ, z)

    same_from : (κ : Kind) (b : ℕ) → from_of t.tables κ b ≡ from_of s.tables κ b
    unfolding from_of
    same_from κ b = ap (λ (l : List ℕ). get_or l (numbers_per_block * b + (3 + column κ)) 0) L.same_blocks

    same_count : (κ : Kind) (b : ℕ) → count_of t.tables κ b ≡ count_of s.tables κ b
    unfolding count_of
    same_count κ b = ap (λ (l : List ℕ). get_or l (numbers_per_block * b + column κ) 0) L.same_blocks

    pub same_node : (κ : Kind) (b m : ℕ) → node t.tables κ b m ≡ node s.tables κ b m
    unfolding node
    same_node κ b m = ap (λ (x : ℕ). x + (m - 1)) (same_from κ b)

    -- an edge of a seam done before is one afterwards
    pub seam_there : (κ : Kind) (x y : ℕ) → SeamEdge o own B s κ x y → SeamEdge o own after t κ x y
    unfolding entered
    seam_there κ x y e = record { b = e.b; c = e.c; joint = e.joint; ticked_in_lem = Memᴰ.tail e.ticked_in_lem; at = move_seam s.tables t.tables (λ d i. sym (same_node κ d i)) e.at }

    kept_later : (κ : Kind) → adds s c κ ≡ 0 → KeptFound s t κ → Kept o own B s κ → Connected (t.tables.links κ) (t.job.sofar κ) (EdgeDone o own after t κ) → Kept o own after t κ
    unfolding entered first_at
    kept_later κ z F J C =
        record {
          from_in = λ b hb i. omega (arith, same_from κ b, J.from_in b hb (every b hb), same_sofar κ z);
          cover = λ x h.
              let w : Numbered o own B s κ x = J.cover x (omega (arith, same_sofar κ z)) in
              record { b = w.b; m = w.m; listed = w.listed; in_book = Memᴰ.tail w.in_book; positive = w.positive; most = w.most; is = w.is ∙ sym (same_node κ w.b w.m) };
          seen = λ b m hb i h0 hm. ap₂ (λ (l : List ℕ) (x : ℕ). key_position (get_or l x 0)) F.keys (same_node κ b m) ∙ J.seen b m hb (every b hb) h0 hm;
          rows = λ b m i hb j h0 hm hi.
              ap₂ (λ (l : List ℕ) (x : ℕ). get_or l (width κ * x + i) 0) F.rows (same_node κ b m)
              ∙ J.rows b m i hb (every b hb) h0 hm hi
              ∙ ap (λ (x : ℕ). enrolled_row o.cutting x b (own b) κ m i) (sym (same_from Face b));
          linked = C;
        }

    pub inv_later : ((κ : Kind) → t.job.numbered κ ≤ t.job.sofar κ)
        → Connected (t.tables.links Face) (t.job.sofar Face) (EdgeDone o own after t Face) → Connected (t.tables.links Curve) (t.job.sofar Curve) (EdgeDone o own after t Curve)
        → ((b d : ℕ) → seam o.cutting b d ≡ true → Memᴰ (seam_step o.cutting (edge b d)) (step ∷ B.done) → some_of (differs (block_extents o.cutting b) (own b) (own d)) (shared o.cutting b d) ≡ false)
        → Inv o own after t
    unfolding entered
    inv_later nm LF LC ly =
        record {
          told = told_kept o own B s t I c step L.ticking B.maps L.step_low L.pass.room L.same_adds;
          btold = I.btold;
          stage = stage_kept o own B s t I c step L.ticking B.maps L.step_low L.pass.room L.same_adds;
          ticks = ticks_kept o own B s t I c step L.ticking B.maps L.step_low L.pass.room L.same_adds;
          sizes = L.sizes;
          sofar = sofar_kept o own B s t I c step L.ticking B.maps L.step_low L.pass.room L.same_adds;
          room = room_kept o own B s t I c step L.ticking B.maps L.step_low L.pass.room L.same_adds;
          numbered = nm;
          progress = progress_kept o own B s t I c step L.ticking B.maps L.step_low L.pass.room L.same_adds L.step_in;
          maps = λ b hb i. I.maps b hb (every b hb);
          counts = λ κ b hb i. same_count κ b ∙ I.counts κ b hb (every b hb);
          faces = kept_later Face L.no_faces L.same_faces I.faces LF;
          curves = kept_later Curve L.no_curves L.same_curves I.curves LC;
          layers = ly;
        }
