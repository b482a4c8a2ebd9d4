-- Accepted crossings and point steps keep the invariant.
-- Assumes nothing.
use mathlib.Core.Bool.{cond, true}
use mathlib.Core.List.Memᴰ
use mathlib.Core.List.{List, Memᴰ, ◌∷◌}
use mathlib.Core.Logic.{◌≢◌, ◌⊎◌, inl, inr}
use mathlib.Core.Path.{◌∙◌, ◌≡◌, ap, refl, subst, sym}
use Prim.Native.Nat.{◌*◌, ◌<◌, ◌≤◌, suc, ℕ}
use native.Mathlib.Omega.{arith}
use lib.Dec.{eqb}
use lib.ListN.{get_or, length, length-set}
use borrow.Author.Tests.{eqb-false, eqb-true}
use Rattle.lists.specs.Lists.{consecutive}
use Rattle.closure.specs.Joined.{Edge, edge}
use Rattle.cells.specs.Grid.{upper_neighbours}
use Rattle.cells.specs.Row.{row_of}
use Rattle.union_find.specs.Links.{root, sound_at}
use Rattle.cutting.specs.Cutting.{block_extents, blocks, good_cut}
use Rattle.joiner.specs.Book.{Book, book_adds, book_after, entered}
use Rattle.joiner.specs.Calls.{Call, cross, point}
use Rattle.joiner.specs.Declines.{adds}
use Rattle.joiner.specs.Outcomes.{AtCrossing, CrossingDone, KeptNumbers, Merged, NumberedKind, PointDone, heads, joined_row, leads, through_links}
use Rattle.joiner.specs.Job.{Closed, Crossing, Curve, Face, Kind, Point, Points, Seam, Stage, State, Tables, Told, node, stage_number, ticks_per_block}
use Rattle.joiner.specs.Stages.{crossing_step, point_step, seam_step, steps_of}
use Rattle.lists.proofs.Cases.{by_test}
use Rattle.lists.proofs.Lists.{consecutive_in, length-keep, length-consecutive, map_same}
use Rattle.lists.proofs.Overlay.{length-overlay}
use Rattle.lists.proofs.Table.{every}
use Rattle.joiner.proofs.Inv.{CrossEdge, EdgeDone, In, Inv, SeamEdge}
use Rattle.joiner.proofs.Later.{Later, after, cross_inside, edge_inside, inv_later, move_cross, move_seam, same_node, same_sofar, seam_there}
use Rattle.joiner.proofs.Progress.{crossing_level, point_level, seam_level, step_stage}
use Rattle.joiner.proofs.Roots.{Connected, connected_more, together_map}
use Rattle.joiner.proofs.Sizes.{Sizes, SameLengths, sizes_after}
use Rattle.joiner.proofs.Passed.{Passed, stage_same}

pub heads_most : (t : Tables) (κ : Kind) (n : ℕ) → length (heads t κ n) ≤ n
unfolding heads
heads_most t κ n = omega (arith, length-keep (λ x. leads t κ n x x) (consecutive 0 n), length-consecutive 0 n)

pub numbered_most : (s t : State) (κ : Kind) (n : ℕ) → NumberedKind s t κ n → t.job.numbered κ ≤ n
numbered_most s t κ n N = omega (arith, N.total, heads_most t.tables κ n)

-- a stage is Points or is not, is Closed or is not
pub stage_is : (q s : Stage) → (s ≡ q) ⊎ (s ≢ q)
stage_is q s =
    by_test (eqb (stage_number s) (stage_number q)) (λ t. inl (stage_same s q (eqb-true _ _ t))) (λ t. inr (λ e. eqb-false (stage_number s) (stage_number q) t (ap stage_number e)))

cross_step_same : (b c : ℕ) → crossing_step b ≡ crossing_step c → b ≡ c
cross_step_same b c e = omega arith

module _ (o : Told) (own : ℕ → List ℕ) (good : good_cut o.cutting ≡ true) (B : Book) (s : State) (I : Inv o own B s) (every : (b : ℕ) → b < blocks o.cutting → In o own B b) where
  -- ---- after the seams no seam is added

  module _ (t : State) (c : Call) (st : ℕ) (L : Later o own good B s I every t c st) (late : stage_number Seam < step_stage st) where
    seam_done : (d : Edge) → Memᴰ (seam_step o.cutting d) (st ∷ B.done) → Memᴰ (seam_step o.cutting d) B.done
    seam_done d m = go (Memᴰ.cases_cons m)
      where
        go : (seam_step o.cutting d ≡ st) ⊎ Memᴰ (seam_step o.cutting d) B.done → Memᴰ (seam_step o.cutting d) B.done
        go (inl e) = absurd (omega (arith, ap step_stage e, late, seam_level o.cutting d))
        go (inr n) = n

    seam_here : (κ : Kind) (x y : ℕ) → SeamEdge o own (after o own good B s I every t c st L) t κ x y → SeamEdge o own B s κ x y
    unfolding entered
    seam_here κ x y e =
        record { b = e.b; c = e.c; joint = e.joint; ticked_in_lem = seam_done (edge e.b e.c) e.ticked_in_lem; at = move_seam t.tables s.tables (same_node o own good B s I every t c st L κ) e.at }

    -- faces do not move
    faces_kept : ((x : ℕ) → root (t.tables.links Face) x ≡ root (s.tables.links Face) x) → ((x : ℕ) → sound_at (s.tables.links Face) x ≡ true → sound_at (t.tables.links Face) x ≡ true) → Connected (t.tables.links Face) (t.job.sofar Face) (EdgeDone o own (after o own good B s I every t c st L) t Face)
    faces_kept R S =
        subst (λ (n : ℕ). Connected (t.tables.links Face) n (SeamEdge o own (after o own good B s I every t c st L) t Face)) (sym (same_sofar o own good B s I every t c st L Face L.no_faces))
        (record {
          one = λ x y hx hy. (
            (λ e. together_map (seam_there o own good B s I every t c st L Face) ((I.faces.linked.one x y hx hy).0 (sym (R x) ∙ e ∙ R y))),
            (λ l. R x ∙ (I.faces.linked.one x y hx hy).1 (together_map (seam_here Face) l) ∙ sym (R y)),
          );
          sound = λ x h. S x (I.faces.linked.sound x h);
        })

    -- so rows over the joined faces stay
    row_kept : ((x : ℕ) → root (t.tables.links Face) x ≡ root (s.tables.links Face) x) → (d p : ℕ) → joined_row o.cutting t.tables d (own d) p ≡ joined_row o.cutting s.tables d (own d) p
    unfolding joined_row through_links
    row_kept R d p =
        ap row_of
        (map_same _ _ (upper_neighbours (block_extents o.cutting d) p)
        (λ q m. ap (λ (x : ℕ). cond (eqb (get_or (own d) q 0) 0) 0 (suc x)) (R (node t.tables Face d (get_or (own d) q 0)) ∙ ap (root (s.tables.links Face)) (same_node o own good B s I every t c st L Face d (get_or (own d) q 0)))))

    cross_there : ((x : ℕ) → root (t.tables.links Face) x ≡ root (s.tables.links Face) x) → (d x y : ℕ) → AtCrossing o.cutting s.tables d (own d) x y → AtCrossing o.cutting t.tables d (own d) x y
    cross_there R d x y = move_cross s.tables t.tables (λ i j. sym (same_node o own good B s I every t c st L Curve i j)) (λ p hp l. sym (row_kept R d p))

    cross_here : ((x : ℕ) → root (t.tables.links Face) x ≡ root (s.tables.links Face) x) → (d x y : ℕ) → AtCrossing o.cutting t.tables d (own d) x y → AtCrossing o.cutting s.tables d (own d) x y
    cross_here R d x y = move_cross t.tables s.tables (same_node o own good B s I every t c st L Curve) (λ p hp l. row_kept R d p)

  -- ---- a crossing

  module _ (t : State) (b : ℕ) (hb : b < blocks o.cutting) (at_stage : B.stage ≡ Crossing) (D : CrossingDone s b (own b) t) (room : Passed s (cross b (own b))) where
    abbrev c₁ : Call
    c₁ = cross b (own b)

    abbrev st₁ : ℕ
    st₁ = crossing_step b

    none₁ : (κ : Kind) → adds s c₁ κ ≡ 0
    unfolding adds
    none₁ κ = refl

    book₁ : (κ : Kind) → adds s c₁ κ ≡ book_adds B c₁ κ
    unfolding adds book_adds
    book₁ κ = refl

    -- what becomes of the numbers of a kind
    data Numbers₁ (κ : Kind) : Type 0 where
      made : NumberedKind s t κ (s.job.sofar κ) → Numbers₁ κ
      left : KeptNumbers s t κ → Numbers₁ κ

    numbers₁ : (κ : Kind) → Numbers₁ κ
    numbers₁ κ = go κ (stage_is Points t.job.stage)
      where
        go : (κ : Kind) → (t.job.stage ≡ Points) ⊎ (t.job.stage ≢ Points) → Numbers₁ κ
        go Face (inl e) = made (D.last e).0
        go Face (inr n) = left (D.before n).0
        go Curve (inl e) = made (D.last e).1
        go Curve (inr n) = left (D.before n).1
        go Point q = left D.points

    lengths : (κ : Kind) → Numbers₁ κ → SameLengths s.tables t.tables κ
    lengths κ (made N) = record { numbers = ap length N.numbers ∙ length-overlay _ _ _ _; firsts = N.firsts_long; listed = N.listed_long }
    lengths κ (left K) = record { numbers = ap length K.numbers; firsts = ap length K.firsts; listed = ap length K.listed }

    most : (κ : Kind) → Numbers₁ κ → t.job.numbered κ ≤ s.job.sofar κ
    most κ (made N) = numbered_most s t κ (s.job.sofar κ) N
    most κ (left K) = omega (arith, K.numbered, I.numbered κ)

    sizes₁ : Sizes o t.tables
    sizes₁ = sizes_after o s t _ I.sizes D.step.ticks D.blocks D.faces.size D.curves.size D.found (λ κ. lengths κ (numbers₁ κ))

    low₁ : st₁ < ticks_per_block * blocks o.cutting
    low₁ = omega (arith, hb)

    L₁ : Later o own good B s I every t c₁ st₁
    L₁ =
        record {
          ticking = D.step;
          same_blocks = D.blocks;
          same_faces = D.found Face;
          same_curves = D.found Curve;
          same_adds = book₁;
          no_faces = none₁ Face;
          no_curves = none₁ Curve;
          step_in = subst (λ (q : Stage). Memᴰ st₁ (steps_of o.cutting q)) (sym at_stage) (unfold steps_of in Memᴰ.map crossing_step (consecutive_in 0 (blocks o.cutting) (omega arith) (omega (arith, hb))));
          step_low = low₁;
          pass = room;
          sizes = sizes₁;
        }

    abbrev B₁ : Book
    B₁ = after o own good B s I every t c₁ st₁ L₁

    late₁ : stage_number Seam < step_stage st₁
    late₁ = omega (arith, crossing_level b)

    curves₁ : Connected (t.tables.links Curve) (t.job.sofar Curve) (EdgeDone o own B₁ t Curve)
    curves₁ =
        subst (λ (n : ℕ). Connected (t.tables.links Curve) n (EdgeDone o own B₁ t Curve)) (sym (same_sofar o own good B s I every t c₁ st₁ L₁ Curve (none₁ Curve)))
        (connected_more (s.tables.links Curve) (t.tables.links Curve) (s.job.sofar Curve) (EdgeDone o own B s Curve) (AtCrossing o.cutting s.tables b (own b)) (EdgeDone o own B₁ t Curve)
        I.curves.linked
        (subst (λ (k : Told). Merged (s.tables.links Curve) (t.tables.links Curve) (AtCrossing k.cutting s.tables b (own b))) I.told D.curves)
        (cross_inside o own good B s I every b hb) old (λ x y a. inr (new x y a)) only (λ x y e. edge_inside o own good B s I every Curve x y e I.curves))
      where
        new : (x y : ℕ) → AtCrossing o.cutting s.tables b (own b) x y → CrossEdge o own B₁ t x y
        new x y a = unfold entered in record { b = b; listed = hb; ticked_in_lem = Memᴰ.head refl; at = cross_there t c₁ st₁ L₁ late₁ D.faces.roots b x y a }

        later : (x y : ℕ) → CrossEdge o own B s x y → CrossEdge o own B₁ t x y
        later x y e = unfold entered in record { b = e.b; listed = e.listed; ticked_in_lem = Memᴰ.tail e.ticked_in_lem; at = cross_there t c₁ st₁ L₁ late₁ D.faces.roots e.b x y e.at }

        old : (x y : ℕ) → EdgeDone o own B s Curve x y → EdgeDone o own B₁ t Curve x y
        old x y (inl e) = inl (seam_there o own good B s I every t c₁ st₁ L₁ Curve x y e)
        old x y (inr e) = inr (later x y e)

        cross_done : (x y : ℕ) (e : CrossEdge o own B₁ t x y) → Memᴰ (crossing_step e.b) (st₁ ∷ B.done)
        cross_done x y e = unfold entered in e.ticked_in_lem

        only : (x y : ℕ) → EdgeDone o own B₁ t Curve x y → EdgeDone o own B s Curve x y ⊎ AtCrossing o.cutting s.tables b (own b) x y
        only x y (inl e) = inl (inl (seam_here t c₁ st₁ L₁ late₁ Curve x y e))
        only x y (inr e) = go (Memᴰ.cases_cons (cross_done x y e))
          where
            was : AtCrossing o.cutting s.tables e.b (own e.b) x y
            was = cross_here t c₁ st₁ L₁ late₁ D.faces.roots e.b x y e.at

            go : (crossing_step e.b ≡ st₁) ⊎ Memᴰ (crossing_step e.b) B.done → EdgeDone o own B s Curve x y ⊎ AtCrossing o.cutting s.tables b (own b) x y
            go (inl q) = inr (subst (λ (d : ℕ). AtCrossing o.cutting s.tables d (own d) x y) (cross_step_same e.b b q) was)
            go (inr n) = inl (inr (record { b = e.b; listed = e.listed; ticked_in_lem = n; at = was }))

    pub cross_keeps : Inv o own (book_after B (cross b (own b))) t
    unfolding book_after
    cross_keeps =
        inv_later o own good B s I every t c₁ st₁ L₁ (λ κ. omega (arith, most κ (numbers₁ κ), same_sofar o own good B s I every t c₁ st₁ L₁ κ (none₁ κ))) (faces_kept t c₁ st₁ L₁ late₁ D.faces.roots D.faces.sound) curves₁
        (λ d e w m. I.layers d e w (seam_done t c₁ st₁ L₁ late₁ (edge d e) m))

  -- ---- a point step

  module _ (t : State) (b : ℕ) (hb : b < blocks o.cutting) (at_stage : B.stage ≡ Points) (D : PointDone s b (own b) t) (room : Passed s (point b (own b))) (book₂ : (κ : Kind) → adds s (point b (own b)) κ ≡ book_adds B (point b (own b)) κ) where
    abbrev c₂ : Call
    c₂ = point b (own b)

    abbrev st₂ : ℕ
    st₂ = point_step b

    none₂ : (adds s c₂ Face ≡ 0) × (adds s c₂ Curve ≡ 0)
    unfolding adds
    none₂ = (refl, refl)

    record PointLengths : Type 0 where
      numbers : length (t.tables.numbers Point) ≡ length (s.tables.numbers Point)
      firsts : length (t.tables.firsts Point) ≡ length (s.tables.firsts Point)
      listed : length (t.tables.listed Point) ≡ length (s.tables.listed Point)
      most : t.job.numbered Point ≤ t.job.sofar Point

    points₂ : PointLengths
    points₂ = go (stage_is Closed t.job.stage)
      where
        go : (t.job.stage ≡ Closed) ⊎ (t.job.stage ≢ Closed) → PointLengths
        go (inl e) = let N = D.last e in record { numbers = ap length N.numbers ∙ length-overlay _ _ _ _; firsts = N.firsts_long; listed = N.listed_long; most = numbered_most s t Point (t.job.sofar Point) N }
        go (inr n) = let K = D.before n in record { numbers = ap length K.numbers; firsts = ap length K.firsts; listed = ap length K.listed; most = omega (arith, K.numbered, I.numbered Point, D.step.sofar Point) }

    sizes₂ : Sizes o t.tables
    sizes₂ =
        record {
          ticks_long = ap length D.step.ticks ∙ length-set s.tables.ticks _ 1 ∙ I.sizes.ticks_long;
          blocks_long = ap length D.blocks ∙ I.sizes.blocks_long;
          face_links = ap length D.face_links ∙ I.sizes.face_links;
          curve_links = ap length D.curve_links ∙ I.sizes.curve_links;
          keys_long = elim [ Face ↦ ap length D.faces.0.keys ∙ I.sizes.keys_long Face | Curve ↦ ap length D.curves.0.keys ∙ I.sizes.keys_long Curve | Point ↦ ap length D.keys ∙ length-overlay _ _ _ _ ∙ I.sizes.keys_long Point ];
          rows_long = elim [ Face ↦ ap length D.faces.0.rows ∙ I.sizes.rows_long Face | Curve ↦ ap length D.curves.0.rows ∙ I.sizes.rows_long Curve | Point ↦ ap length D.rows ∙ length-overlay _ _ _ _ ∙ I.sizes.rows_long Point ];
          numbers_long = elim [ Face ↦ ap length D.faces.1.numbers ∙ I.sizes.numbers_long Face | Curve ↦ ap length D.curves.1.numbers ∙ I.sizes.numbers_long Curve | Point ↦ points₂.numbers ∙ I.sizes.numbers_long Point ];
          firsts_long = elim [ Face ↦ ap length D.faces.1.firsts ∙ I.sizes.firsts_long Face | Curve ↦ ap length D.curves.1.firsts ∙ I.sizes.firsts_long Curve | Point ↦ points₂.firsts ∙ I.sizes.firsts_long Point ];
          listed_long = elim [ Face ↦ ap length D.faces.1.listed ∙ I.sizes.listed_long Face | Curve ↦ ap length D.curves.1.listed ∙ I.sizes.listed_long Curve | Point ↦ points₂.listed ∙ I.sizes.listed_long Point ];
        }

    low₂ : st₂ < ticks_per_block * blocks o.cutting
    low₂ = omega (arith, hb)

    L₂ : Later o own good B s I every t c₂ st₂
    L₂ =
        record {
          ticking = D.step;
          same_blocks = D.blocks;
          same_faces = D.faces.0;
          same_curves = D.curves.0;
          same_adds = book₂;
          no_faces = none₂.0;
          no_curves = none₂.1;
          step_in = subst (λ (q : Stage). Memᴰ st₂ (steps_of o.cutting q)) (sym at_stage) (unfold steps_of in Memᴰ.map point_step (consecutive_in 0 (blocks o.cutting) (omega arith) (omega (arith, hb))));
          step_low = low₂;
          pass = room;
          sizes = sizes₂;
        }

    abbrev B₂ : Book
    B₂ = after o own good B s I every t c₂ st₂ L₂

    late₂ : stage_number Seam < step_stage st₂
    late₂ = omega (arith, point_level b)

    roots₂ : (x : ℕ) → root (t.tables.links Face) x ≡ root (s.tables.links Face) x
    roots₂ x = ap (λ (l : List ℕ). root l x) D.face_links

    curves₂ : Connected (t.tables.links Curve) (t.job.sofar Curve) (EdgeDone o own B₂ t Curve)
    curves₂ =
        subst (λ (n : ℕ). Connected (t.tables.links Curve) n (EdgeDone o own B₂ t Curve)) (sym (pub_sofar Curve none₂.1))
        (subst (λ (l : List ℕ). Connected l (s.job.sofar Curve) (EdgeDone o own B₂ t Curve)) (sym D.curve_links)
        (record { one = λ x y hx hy. ((λ q. together_map there ((I.curves.linked.one x y hx hy).0 q)), (λ q. (I.curves.linked.one x y hx hy).1 (together_map back_again q))); sound = I.curves.linked.sound }))
      where
        pub_sofar : (κ : Kind) → adds s c₂ κ ≡ 0 → t.job.sofar κ ≡ s.job.sofar κ
        pub_sofar = same_sofar o own good B s I every t c₂ st₂ L₂

        there : (x y : ℕ) → EdgeDone o own B s Curve x y → EdgeDone o own B₂ t Curve x y
        there x y (inl e) = inl (seam_there o own good B s I every t c₂ st₂ L₂ Curve x y e)
        there x y (inr e) = inr (unfold entered in record { b = e.b; listed = e.listed; ticked_in_lem = Memᴰ.tail e.ticked_in_lem; at = cross_there t c₂ st₂ L₂ late₂ roots₂ e.b x y e.at })

        cross_done : (d : ℕ) → Memᴰ (crossing_step d) (st₂ ∷ B.done) → Memᴰ (crossing_step d) B.done
        cross_done d m = go (Memᴰ.cases_cons m)
          where
            go : (crossing_step d ≡ st₂) ⊎ Memᴰ (crossing_step d) B.done → Memᴰ (crossing_step d) B.done
            go (inl e) = absurd (omega (arith, ap step_stage e, point_level b, crossing_level d))
            go (inr n) = n

        back_again : (x y : ℕ) → EdgeDone o own B₂ t Curve x y → EdgeDone o own B s Curve x y
        back_again x y (inl e) = inl (seam_here t c₂ st₂ L₂ late₂ Curve x y e)
        back_again x y (inr e) = inr (unfold entered in record { b = e.b; listed = e.listed; ticked_in_lem = cross_done e.b e.ticked_in_lem; at = cross_here t c₂ st₂ L₂ late₂ roots₂ e.b x y e.at })

    numbered₂ : (κ : Kind) → t.job.numbered κ ≤ t.job.sofar κ
    numbered₂ Face = omega (arith, D.faces.1.numbered, I.numbered Face, D.step.sofar Face)
    numbered₂ Curve = omega (arith, D.curves.1.numbered, I.numbered Curve, D.step.sofar Curve)
    numbered₂ Point = points₂.most

    pub point_keeps : Inv o own (book_after B (point b (own b))) t
    unfolding book_after
    point_keeps = inv_later o own good B s I every t c₂ st₂ L₂ numbered₂ (faces_kept t c₂ st₂ L₂ late₂ roots₂ (λ x e. ap (λ (l : List ℕ). sound_at l x) D.face_links ∙ e)) curves₂ (λ d e w m. I.layers d e w (seam_done t c₂ st₂ L₂ late₂ (edge d e) m))
