-- The points found block by block are those of the uncut volume, and rank as it numbers them.
-- Assumes nothing.
use mathlib.Core.Bool.{true}
use mathlib.Core.List.Memᴰ
use mathlib.Core.List.{List, Memᴰ, ◌∷◌}
use mathlib.Core.Logic.{◌≢◌, ◌⊎◌, inl, inr}
use mathlib.Core.Path.{◌∙◌, ◌≡◌, ap, refl, subst, sym}
use Prim.Native.Nat.{◌%◌, ◌*◌, ◌+◌, ◌-◌, ◌/◌, ◌<◌, ◌≤◌, ℕ}
use native.Mathlib.Omega.{arith}
use lib.Dec.{eqb, ltb}
use lib.ListN.{get_or, length}
use borrow.Author.Tests.{ltb-false, ltb-true}
use Rattle.lists.specs.Lists.{consecutive, keep, overlay}
use Rattle.cells.specs.Grid.{cells, order}
use Rattle.cells.specs.Row.{active, row}
use Rattle.labels.specs.Components.{first_cell, largest, of_order}
use Rattle.cutting.specs.Cutting.{Cutting, block_extents, blocks, embed, good_cut}
use Rattle.cutting.specs.Nodes.{uncut_map}
use Rattle.joiner.specs.Outcomes.{class_of, row_at, row_final}
use Rattle.joiner.specs.Job.{Point, Tables, first_at, key_of, key_position}
use Rattle.joiner.specs.Stages.{point_step}
use Rattle.lists.proofs.Cases.{by_test}
use Rattle.lists.proofs.Lists.{Ascends, ascends_at, ascends_consecutive, ascends_keep, get_or-in, in_get_or, get_or_tabulate, keep_in, keep_out}
use Rattle.lists.proofs.Overlay.{overlay_at, overlay_before, rows_at, rows_before}
use Rattle.lists.proofs.Table.{every}
use Rattle.labels.proofs.ComponentLaws.{Belongs, belongs_at, least_at, of_order_in, of_order_out}
use Rattle.labels.proofs.CountLaws.{Somewhere, every_number, first_cells_ascend, largest_bound, member_active}
use Rattle.labels.proofs.LabelLaws.{labels_numbering, point_alone}
use Rattle.cutting.proofs.CutLaws.{InBlock, blocks_cover, embed_inside, embed_less, embed_order}
use Rattle.cutting.proofs.SeamLaws.{point_block}
use Rattle.joiner.proofs.EnrolKeeps.{blocks_most}
use Rattle.joiner.proofs.Keys.{key_first}
use Rattle.joiner.proofs.Ranked.{Ranked}

module _ (k : Cutting) (good : good_cut k ≡ true) (codes : List ℕ) where
  -- the points of block b: its point cells that are active in the volume
  unfoldable pub points_of : ℕ → List ℕ
  points_of b = keep (λ p. active k.extents (uncut_map k codes) (embed k b p)) (of_order (block_extents k b) 0)

  pub record PointCell (b p : ℕ) : Type 0 where
    pub within : p < cells (block_extents k b)
    pub level : order (block_extents k b) p ≡ 0
    pub act : active k.extents (uncut_map k codes) (embed k b p) ≡ true

  pub cell_out : (b p : ℕ) → Memᴰ p (points_of b) → PointCell b p
  unfolding points_of
  cell_out b p m =
      let r = keep_out (λ p. active k.extents (uncut_map k codes) (embed k b p)) (of_order (block_extents k b) 0) m in
      let q = of_order_out (block_extents k b) 0 r.0 in
      record { within = q.0; level = q.1; act = r.1 }

  cell_in : (b p : ℕ) → PointCell b p → Memᴰ p (points_of b)
  unfolding points_of
  cell_in b p c =
      keep_in (λ p. active k.extents (uncut_map k codes) (embed k b p)) (of_order (block_extents k b) 0) (subst (λ (j : ℕ). Memᴰ p (of_order (block_extents k b) j)) c.level (of_order_in (block_extents k b) c.within)) c.act

  cells_up : (b : ℕ) → Ascends 0 (points_of b)
  unfolding points_of of_order
  cells_up b =
      ascends_keep _ 0 (of_order (block_extents k b) 0) (ascends_keep (λ q. eqb (order (block_extents k b) q) 0) 0 (consecutive 0 (cells (block_extents k b))) (ascends_consecutive 0 (cells (block_extents k b))))

  -- place x holds a point of a block that is done
  pub record PointAt (t : Tables) (done : List ℕ) (x : ℕ) : Type 0 where
    pub b : ℕ
    pub p : ℕ
    pub listed : b < blocks k
    pub ticked_in_lem : Memᴰ (point_step b) done
    pub cell : Memᴰ p (points_of b)
    pub first_at_lem : first_at t Point x ≡ embed k b p
    pub row_at_lem : (i : ℕ) → i < 6 → get_or (t.rows Point) (6 * x + i) 0 ≡ get_or (row k.extents (uncut_map k codes) (embed k b p)) i 0

  -- the first n places hold the points of the blocks done, each once
  pub record PointsSo (t : Tables) (done : List ℕ) (n : ℕ) : Type 0 where
    pub out : (x : ℕ) → x < n → PointAt t done x
    pub into : (b p : ℕ) → b < blocks k → Memᴰ (point_step b) done → Memᴰ p (points_of b) → (x : ℕ) × (x < n) × (first_at t Point x ≡ embed k b p)
    pub once : (x y : ℕ) → x < n → y < n → first_at t Point x ≡ first_at t Point y → x ≡ y

  pub points_none : (t : Tables) (done : List ℕ) → ((b : ℕ) → Memᴰ (point_step b) done → ⊥) → PointsSo t done 0
  points_none t done h = record { out = λ x m. absurd (omega arith); into = λ b p hb d m. absurd (h b d); once = λ x y hx. absurd (omega arith) }

  -- the tables with the points of one more block
  pub record MorePoints (t u : Tables) (b n : ℕ) : Type 0 where
    pub keys : u.keys Point ≡ overlay (t.keys Point) n (λ i. key_of (embed k b (get_or (points_of b) i 0)) b) (length (points_of b))
    pub rows : u.rows Point
        ≡ overlay (t.rows Point) (6 * n) (λ i. get_or (row k.extents (uncut_map k codes) (embed k b (get_or (points_of b) (i / 6) 0))) (i % 6) 0) (6 * length (points_of b))
    pub keys_room : n + length (points_of b) ≤ length (t.keys Point)
    pub rows_room : 6 * n + 6 * length (points_of b) ≤ length (t.rows Point)

  module _ (t u : Tables) (done : List ℕ) (n b : ℕ) (P : PointsSo t done n) (hb : b < blocks k) (fresh : Memᴰ (point_step b) done → ⊥) (M : MorePoints t u b n) where
    old_first : (x : ℕ) → x < n → first_at u Point x ≡ first_at t Point x
    unfolding first_at
    old_first x h = ap (λ (l : List ℕ). key_position (get_or l x 0)) M.keys ∙ ap key_position (overlay_before (t.keys Point) n _ (length (points_of b)) x h)

    new_first : (i : ℕ) → i < length (points_of b) → first_at u Point (n + i) ≡ embed k b (get_or (points_of b) i 0)
    unfolding first_at
    new_first i h =
        ap (λ (l : List ℕ). key_position (get_or l (n + i) 0)) M.keys
        ∙ ap key_position (overlay_at (t.keys Point) n (λ i. key_of (embed k b (get_or (points_of b) i 0)) b) (length (points_of b)) i h M.keys_room)
        ∙ key_first (embed k b (get_or (points_of b) i 0)) b (omega (arith, hb, blocks_most k good))

    old_at : (x : ℕ) → x < n → PointAt u (point_step b ∷ done) x
    old_at x h =
        let o = P.out x h in
        record {
          b = o.b;
          p = o.p;
          listed = o.listed;
          ticked_in_lem = Memᴰ.tail o.ticked_in_lem;
          cell = o.cell;
          first_at_lem = old_first x h ∙ o.first_at_lem;
          row_at_lem = λ i hi. ap (λ (l : List ℕ). get_or l (6 * x + i) 0) M.rows ∙ rows_before (t.rows Point) 6 n _ (6 * length (points_of b)) x i h hi ∙ o.row_at_lem i hi;
        }

    new_at : (i : ℕ) → i < length (points_of b) → PointAt u (point_step b ∷ done) (n + i)
    new_at i h =
        record {
          b = b;
          p = get_or (points_of b) i 0;
          listed = hb;
          ticked_in_lem = Memᴰ.head refl;
          cell = get_or-in (points_of b) i h;
          first_at_lem = new_first i h;
          row_at_lem = λ j hj. ap (λ (l : List ℕ). get_or l (6 * (n + i) + j) 0) M.rows
              ∙ rows_at (t.rows Point) 6 n (λ x j. get_or (row k.extents (uncut_map k codes) (embed k b (get_or (points_of b) x 0))) j 0) (length (points_of b)) i j h hj M.rows_room;
        }

    out' : (x : ℕ) → x < n + length (points_of b) → PointAt u (point_step b ∷ done) x
    out' x h =
        by_test (ltb x n) (λ q. old_at x (ltb-true x n q))
        (λ q.
        let l : n ≤ x = ltb-false x n q in
        let e : n + (x - n) ≡ x = omega arith in
        subst (PointAt u (point_step b ∷ done)) e (new_at (x - n) (omega arith)))

    step_same : (c : ℕ) → point_step c ≡ point_step b → c ≡ b
    step_same c e = omega arith

    into' : (c p : ℕ) → c < blocks k → Memᴰ (point_step c) (point_step b ∷ done) → Memᴰ p (points_of c) → (x : ℕ) × (x < n + length (points_of b)) × (first_at u Point x ≡ embed k c p)
    into' c p hc d m = go (Memᴰ.cases_cons d)
      where
        go : (point_step c ≡ point_step b) ⊎ Memᴰ (point_step c) done → (x : ℕ) × (x < n + length (points_of b)) × (first_at u Point x ≡ embed k c p)
        go (inl e) =
            let q : c ≡ b = step_same c e in
            let r = in_get_or (points_of b) (subst (λ (y : ℕ). Memᴰ p (points_of y)) q m) in
            (n + r.0, omega (arith, r.1), new_first r.0 r.1 ∙ ap (embed k b) r.2 ∙ ap (λ (y : ℕ). embed k y p) (sym q))
        go (inr i) = let r = P.into c p hc i m in (r.0, omega (arith, r.1), old_first r.0 r.1 ∙ r.2)

    -- positions of old and new points differ, and so do those of two new ones
    apart : (x i : ℕ) → x < n → i < length (points_of b) → first_at u Point x ≢ first_at u Point (n + i)
    apart x i hx hi e =
        let o = P.out x hx in
        let c = cell_out o.b o.p o.cell in
        let d = cell_out b (get_or (points_of b) i 0) (get_or-in (points_of b) i hi) in
        let q : embed k b (get_or (points_of b) i 0) ≡ embed k o.b o.p = sym (new_first i hi) ∙ sym e ∙ old_first x hx ∙ o.first_at_lem in
        let z : o.b ≡ b =
        point_block k good (embed k o.b o.p) o.b b (embed_order k good o.b o.listed o.p c.within ∙ c.level) o.listed hb (record { p = o.p; within = c.within; is = refl }) (record { p = get_or (points_of b) i 0; within = d.within; is = q }) in
        fresh (subst (λ (y : ℕ). Memᴰ (point_step y) done) z o.ticked_in_lem)

    grows : (i j : ℕ) → i < j → j < length (points_of b) → first_at u Point (n + i) < first_at u Point (n + j)
    grows i j h l =
        subst (λ (y : ℕ). y < first_at u Point (n + j)) (sym (new_first i (omega arith)))
        (subst (λ (y : ℕ). embed k b (get_or (points_of b) i 0) < y) (sym (new_first j l))
        (embed_less k good b hb (get_or (points_of b) i 0) (get_or (points_of b) j 0) (ascends_at 0 (points_of b) (cells_up b) i j h l) (cell_out b (get_or (points_of b) j 0) (get_or-in (points_of b) j l)).within))

    once' : (x y : ℕ) → x < n + length (points_of b) → y < n + length (points_of b) → first_at u Point x ≡ first_at u Point y → x ≡ y
    once' x y hx hy e =
        by_test (ltb x n)
        (λ a. by_test (ltb y n)
        (λ c. P.once x y (ltb-true x n a) (ltb-true y n c) (sym (old_first x (ltb-true x n a)) ∙ e ∙ old_first y (ltb-true y n c)))
        (λ c. let l : n ≤ y = ltb-false y n c in let q : n + (y - n) ≡ y = omega arith in absurd (apart x (y - n) (ltb-true x n a) (omega arith) (e ∙ ap (first_at u Point) (sym q)))))
        (λ a.
        let l : n ≤ x = ltb-false x n a in
        let q : n + (x - n) ≡ x = omega arith in
        by_test (ltb y n)
        (λ c. absurd (apart y (x - n) (ltb-true y n c) (omega arith) (sym e ∙ ap (first_at u Point) (sym q))))
        (λ c.
        let m : n ≤ y = ltb-false y n c in
        let r : n + (y - n) ≡ y = omega arith in
        by_test (ltb x y)
        (λ d. let dd : x < y = ltb-true x y d in absurd (omega (arith, grows (x - n) (y - n) (omega arith) (omega arith), ap (first_at u Point) q, ap (first_at u Point) r, e)))
        (λ d. by_test (ltb y x)
        (λ f. let ff : y < x = ltb-true y x f in absurd (omega (arith, grows (y - n) (x - n) (omega arith) (omega arith), ap (first_at u Point) q, ap (first_at u Point) r, e)))
        (λ f. omega (arith, ltb-false x y d, ltb-false y x f)))))

    pub points_more : PointsSo u (point_step b ∷ done) (n + length (points_of b))
    points_more = record { out = out'; into = into'; once = once' }

  -- ---- all blocks done

  abbrev pub vol_point : Tables → ℕ → ℕ
  vol_point t x = get_or (uncut_map k codes) (first_at t Point x) 0

  module _ (t : Tables) (done : List ℕ) (n : ℕ) (P : PointsSo t done n) (every : (b : ℕ) → b < blocks k → Memᴰ (point_step b) done) where
    -- a found point's cell in the volume
    record Spot (x : ℕ) : Type 0 where
      inside : first_at t Point x < cells k.extents
      level : order k.extents (first_at t Point x) ≡ 0
      act : active k.extents (uncut_map k codes) (first_at t Point x) ≡ true

    spot : (x : ℕ) → x < n → Spot x
    spot x h =
        let o = P.out x h in
        let c = cell_out o.b o.p o.cell in
        record {
          inside = subst (λ (y : ℕ). y < cells k.extents) (sym o.first_at_lem) (embed_inside k good o.b o.listed o.p c.within);
          level = ap (order k.extents) o.first_at_lem ∙ embed_order k good o.b o.listed o.p c.within ∙ c.level;
          act = ap (active k.extents (uncut_map k codes)) o.first_at_lem ∙ c.act;
        }

    reached' : (N : ℕ) → 0 < N → N ≤ largest k.extents (uncut_map k codes) 0 → (x : ℕ) × (x < n) × (vol_point t x ≡ N) × (first_at t Point x ≡ first_cell k.extents (uncut_map k codes) 0 N)
    reached' N h0 hN =
        let r : Somewhere k.extents (uncut_map k codes) 0 N = every_number k.extents codes (uncut_map k codes) (labels_numbering k.extents codes) 0 (omega arith) N h0 hN in
        let q : ℕ = first_cell k.extents (uncut_map k codes) 0 N in
        let f : Belongs k.extents (uncut_map k codes) 0 N q = belongs_at k.extents (uncut_map k codes) 0 N r.p r.there.within r.there.level r.there.has in
        let w : InBlock k q = blocks_cover k good q f.within in
        let c : PointCell w.b w.has.p =
        record {
          within = w.has.within;
          level = sym (embed_order k good w.b w.listed w.has.p w.has.within) ∙ ap (order k.extents) w.has.is ∙ f.level;
          act = ap (active k.extents (uncut_map k codes)) w.has.is ∙ member_active k.extents codes (omega arith) h0 f;
        } in
        let i = P.into w.b w.has.p w.listed (every w.b w.listed) (cell_in w.b w.has.p c) in
        let e : first_at t Point i.0 ≡ q = i.2 ∙ w.has.is in
        (i.0, i.1, ap (λ (y : ℕ). get_or (uncut_map k codes) y 0) e ∙ f.has, e)

    pub ranked_points : Ranked t Point n (vol_point t) (λ N. first_cell k.extents (uncut_map k codes) 0 N) (largest k.extents (uncut_map k codes) 0)
    unfolding class_of
    ranked_points =
        record {
          positive = λ x h. let s = spot x h in (labels_numbering k.extents codes).positive (first_at t Point x) s.inside s.act;
          most = λ x h. let s = spot x h in subst (λ (j : ℕ). vol_point t x ≤ largest k.extents (uncut_map k codes) j) s.level (largest_bound k.extents (uncut_map k codes) (first_at t Point x) s.inside);
          begins = λ x h. let s = spot x h in least_at k.extents (uncut_map k codes) 0 (vol_point t x) (first_at t Point x) s.inside s.level refl;
          reached = reached';
          one = λ x y hx hy. (
            (λ e. ap (vol_point t) e),
            (λ e.
                let s = spot x hx in
                let u = spot y hy in
                P.once x y hx hy (point_alone k.extents (uncut_map k codes) s.level (((labels_numbering k.extents codes).shared (first_at t Point x) (first_at t Point y) s.inside u.inside (s.level ∙ sym u.level) s.act u.act).0 e))),
          );
          ascend = λ M N a b d. first_cells_ascend k.extents codes (uncut_map k codes) (labels_numbering k.extents codes) 0 (omega arith) M N a b d;
        }

  -- the rows of points are kept as they are
  pub point_rows : (t : Tables) (done : List ℕ) (n : ℕ) → PointsSo t done n → (x : ℕ) → x < n → (i : ℕ) → i < 6 → get_or (row_final t Point x) i 0 ≡ get_or (row k.extents (uncut_map k codes) (first_at t Point x)) i 0
  unfolding row_final row_at
  point_rows t done n P x hx i hi =
      let o = P.out x hx in
      get_or_tabulate 6 (λ j. get_or (t.rows Point) (6 * x + j) 0) i hi ∙ o.row_at_lem i hi ∙ ap (λ (q : ℕ). get_or (row k.extents (uncut_map k codes) q) i 0) (sym o.first_at_lem)
