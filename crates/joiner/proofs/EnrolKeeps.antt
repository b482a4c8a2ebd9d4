-- An accepted enrolment keeps the invariant.
-- Assumes nothing.
use mathlib.Core.Bool.{◌&&◌, cond, false, true}
use mathlib.Core.List.Memᴰ
use mathlib.Core.List.{List, Memᴰ, [], ◌∷◌}
use mathlib.Core.Logic.{◌≢◌, ◌⊎◌, inl, inr}
use mathlib.Core.Path.{◌∙◌, ◌≡◌, ap, ap₂, refl, subst, sym}
use Prim.Native.Nat.{◌*◌, ◌+◌, ◌-◌, ◌<◌, ◌≤◌, suc, ℕ}
use native.Mathlib.Nat.{mul-add, mul-le-mul_left}
use native.Mathlib.Omega.{arith}
use lib.Dec.{eqb, leb, ltb}
use lib.ListN.{get_or, length, length-set}
use borrow.Author.Tests.{eqb-false, eqb-true, le-leb, leb-true, ltb-false, ltb-true}
use Rattle.lists.specs.Lists.{overlay}
use Rattle.closure.specs.Joined.{edge}
use Rattle.cells.specs.declared.Triple.{Triple}
use Rattle.cells.specs.Grid.{order}
use Rattle.union_find.specs.Links.{parent, root, sound_at}
use Rattle.labels.specs.Components.{component, first_cell, largest}
use Rattle.labels.specs.Numbering.{Numbering}
use Rattle.cutting.specs.Cutting.{Cutting, block_extents, blocks, cut_list, embed, good_cut, most_blocks}
use Rattle.joiner.specs.Book.{Book, book_adds, book_after, entered}
use Rattle.joiner.specs.Calls.{Call, enrol}
use Rattle.joiner.specs.Declines.{adds}
use Rattle.joiner.specs.Outcomes.{EnrolDone, EnrolledKind, Ticked, block_entry, enrolled_key, enrolled_row, first_of, same}
use Rattle.joiner.specs.Job.{Curve, Enrol, Face, Kind, Point, Stage, State, Told, column, count_of, first_at, from_of, key_position, node, numbers_per_block, order_of, stage_number, ticks_per_block, width}
use Rattle.joiner.specs.Stages.{crossing_step, enrol_step, seam_step, steps_of}
use Rattle.joiner.specs.Statement.{Labelling}
use Rattle.lists.proofs.Cases.{and_second, by_test, picked}
use Rattle.lists.proofs.Lists.{consecutive_in}
use Rattle.lists.proofs.Overlay.{length-overlay, overlay_at, overlay_before, overlay_behind, rows_at, rows_before}
use Rattle.union_find.proofs.LinkLaws.{own_root, root_idem, root_low, root_own}
use Rattle.labels.proofs.ComponentLaws.{component_in}
use Rattle.labels.proofs.CountLaws.{Somewhere, every_number}
use Rattle.labels.proofs.LabelLaws.{labels_numbering}
use Rattle.joiner.proofs.Accepted.{progress_kept, room_kept, sofar_kept, stage_kept, ticks_kept, told_kept}
use Rattle.joiner.proofs.Classes.{order_small}
use Rattle.joiner.proofs.Inv.{EdgeDone, In, Inv, Kept, Numbered}
use Rattle.joiner.proofs.Keys.{key_first}
use Rattle.joiner.proofs.Progress.{crossing_level, seam_level, step_stage, steps_level}
use Rattle.joiner.proofs.Roots.{Connected, together_keeps}
use Rattle.joiner.proofs.Sizes.{Sizes}
use Rattle.joiner.proofs.Passed.{Passed}

pub blocks_most : (k : Cutting) → good_cut k ≡ true → blocks k ≤ most_blocks
unfolding good_cut
blocks_most k t = leb-true (blocks k) most_blocks (and_second (cut_list k.extents.x k.cx && cut_list k.extents.y k.cy && cut_list k.extents.z k.cz) (leb (blocks k) most_blocks) t)

-- a number that a cell has stands where its first cell does
first_is : (k : Cutting) (b : ℕ) (m : List ℕ) → Labelling (block_extents k b) m → (κ : Kind) (n : ℕ) → 0 < n → n ≤ largest (block_extents k b) m (order_of κ)
    → first_of k b (component (block_extents k b) m (order_of κ) n) ≡ embed k b (first_cell (block_extents k b) m (order_of κ) n)
unfolding first_cell
first_is k b m l κ n h0 hn = go (component (block_extents k b) m (order_of κ) n) has
  where
    e : Triple
    e = block_extents k b

    w : Somewhere e m (order_of κ) n
    w = every_number e l.codes m (subst (λ (x : List ℕ). Numbering e l.codes x) (sym l.left) (labels_numbering e l.codes)) (order_of κ) (order_small κ) n h0 hn

    has : Memᴰ w.p (component e m (order_of κ) n)
    has = subst (λ (j : ℕ). Memᴰ w.p (component e m j n)) w.there.level (subst (λ (x : ℕ). Memᴰ w.p (component e m (order e w.p) x)) w.there.has (component_in e m w.there.within))

    go : (c : List ℕ) {p : ℕ} → Memᴰ p c → first_of k b c ≡ embed k b (get_or c 0 0)
    go [] h = absurd (Memᴰ.not-nil h)
    go (p ∷ c) h = unfold first_of in refl

-- ---- the block table with one block written

module _ (xs : List ℕ) (b n : ℕ) (f : ℕ → ℕ) (hb : b < n) (long : length xs ≡ numbers_per_block * n) where
  column_new : (i : ℕ) → i < numbers_per_block → get_or (overlay xs (numbers_per_block * b) f numbers_per_block) (numbers_per_block * b + i) 0 ≡ f i
  column_new i h = overlay_at xs (numbers_per_block * b) f numbers_per_block i h (omega arith)

  column_old : (c i : ℕ) → i < numbers_per_block → c ≢ b → get_or (overlay xs (numbers_per_block * b) f numbers_per_block) (numbers_per_block * c + i) 0 ≡ get_or xs (numbers_per_block * c + i) 0
  column_old c i h d =
      by_test (ltb c b)
      (λ t. let l : c < b = ltb-true c b t in overlay_before xs (numbers_per_block * b) f numbers_per_block (numbers_per_block * c + i) (omega arith))
      (λ t. let l : b ≤ c = ltb-false c b t in overlay_behind xs (numbers_per_block * b) f numbers_per_block (numbers_per_block * c + i) (omega arith))

module _ (o : Told) (own : ℕ → List ℕ) (good : good_cut o.cutting ≡ true) (lab : (b : ℕ) → b < blocks o.cutting → Labelling (block_extents o.cutting b) (own b)) (B : Book) (s t : State) (I : Inv o own B s)
    (b : ℕ) (hb : b < blocks o.cutting) (at-enrol : B.stage ≡ Enrol) (fresh : ¬ In o own B b) (D : EnrolDone s b (own b) t)
    (room : Passed s (enrol b (own b))) (Adds-same : (κ : Kind) → adds s (enrol b (own b)) κ ≡ book_adds B (enrol b (own b)) κ) where
  B' : Book
  B' = book_after B (enrol b (own b))

  -- which blocks are enrolled afterwards
  in_cases : (c : ℕ) → Memᴰ (enrol_step c) (enrol_step b ∷ B.done) → (c ≡ b) ⊎ ((c ≢ b) × In o own B c)
  in_cases c m =
      by_test (eqb c b) (λ q. inl (eqb-true c b q))
      (λ q. inr (eqb-false c b q, go (Memᴰ.cases_cons m) (eqb-false c b q)))
    where
      go : (enrol_step c ≡ enrol_step b) ⊎ Memᴰ (enrol_step c) B.done → c ≢ b → Memᴰ (enrol_step c) B.done
      go (inl e) n = absurd (n (omega arith))
      go (inr i) n = i

  -- what the block adds
  adds_is : (adds s (enrol b (own b)) Face ≡ largest (block_extents o.cutting b) (own b) 2) × (adds s (enrol b (own b)) Curve ≡ largest (block_extents o.cutting b) (own b) 1)
  unfolding adds
  adds_is = (ap (λ (z : Told). largest (block_extents z.cutting b) (own b) 2) I.told, ap (λ (z : Told). largest (block_extents z.cutting b) (own b) 1) I.told)

  step_low : enrol_step b < ticks_per_block * blocks o.cutting
  step_low = omega (arith, hb)

  -- there is room for it
  enough : (κ : Kind) → s.job.sofar κ + adds s (enrol b (own b)) κ ≤ o.entries κ
  enough κ = omega (arith, room_kept o own B s t I (enrol b (own b)) (enrol_step b) D.step B.maps step_low room.room Adds-same κ, Adds-same κ, I.sofar κ)

  -- the block table
  new_entry : (i : ℕ) → i < numbers_per_block → get_or t.tables.blocks (numbers_per_block * b + i) 0 ≡ block_entry s b (own b) i
  new_entry i h = ap (λ (l : List ℕ). get_or l (numbers_per_block * b + i) 0) D.blocks ∙ column_new s.tables.blocks b (blocks o.cutting) (block_entry s b (own b)) hb I.sizes.blocks_long i h

  old_entry : (c i : ℕ) → i < numbers_per_block → c ≢ b → get_or t.tables.blocks (numbers_per_block * c + i) 0 ≡ get_or s.tables.blocks (numbers_per_block * c + i) 0
  old_entry c i h d = ap (λ (l : List ℕ). get_or l (numbers_per_block * c + i) 0) D.blocks ∙ column_old s.tables.blocks b (blocks o.cutting) (block_entry s b (own b)) hb I.sizes.blocks_long c i h d

  count_new : (κ : Kind) → count_of t.tables κ b ≡ largest (block_extents o.cutting b) (own b) (order_of κ)
  unfolding count_of block_entry
  count_new Face = new_entry 0 (omega arith) ∙ ap (λ (z : Told). largest (block_extents z.cutting b) (own b) 2) I.told
  count_new Curve = new_entry 1 (omega arith) ∙ ap (λ (z : Told). largest (block_extents z.cutting b) (own b) 1) I.told
  count_new Point = new_entry 2 (omega arith) ∙ ap (λ (z : Told). largest (block_extents z.cutting b) (own b) 0) I.told

  column_low : (κ : Kind) → column κ < 3
  column_low Face = omega arith
  column_low Curve = omega arith
  column_low Point = omega arith

  count_old : (κ : Kind) (c : ℕ) → c ≢ b → count_of t.tables κ c ≡ count_of s.tables κ c
  unfolding count_of
  count_old κ c d = old_entry c (column κ) (omega (arith, column_low κ)) d

  face_from : from_of t.tables Face b ≡ s.job.sofar Face
  unfolding from_of block_entry
  face_from = new_entry 3 (omega arith)

  curve_from : from_of t.tables Curve b ≡ s.job.sofar Curve
  unfolding from_of block_entry
  curve_from = new_entry 4 (omega arith)

  from_old : (κ : Kind) → 0 < order_of κ → (c : ℕ) → c ≢ b → from_of t.tables κ c ≡ from_of s.tables κ c
  unfolding from_of
  from_old Face h c d = old_entry c 3 (omega arith) d
  from_old Curve h c d = old_entry c 4 (omega arith) d
  from_old Point h c d = absurd (omega arith)

  -- no seam or crossing is done yet
  no_step : (i : ℕ) → stage_number Enrol < step_stage i → Memᴰ i (enrol_step b ∷ B.done) → ⊥
  no_step i h m = go (Memᴰ.cases_cons m)
    where
      lev : step_stage (enrol_step b) ≡ stage_number Enrol
      lev = steps_level o.cutting Enrol (unfold steps_of in Memᴰ.map enrol_step (consecutive_in 0 (blocks o.cutting) (omega arith) (omega (arith, hb))))

      go : (i ≡ enrol_step b) ⊎ Memᴰ i B.done → ⊥
      go (inl e) = omega (arith, ap step_stage e, lev)
      go (inr n) = omega (arith, I.progress.past i n, ap stage_number at-enrol)

  module _ (κ : Kind) (lo : 0 < order_of κ) (E : EnrolledKind s t b (own b) κ) (J : Kept o own B s κ) (n-is : adds s (enrol b (own b)) κ ≡ largest (block_extents o.cutting b) (own b) (order_of κ))
      (links-long : length (s.tables.links κ) ≡ o.entries κ) (from-new : from_of t.tables κ b ≡ s.job.sofar κ)
      (none : (x y : ℕ) → EdgeDone o own B s κ x y → ⊥) (none' : (x y : ℕ) → EdgeDone o own B' t κ x y → ⊥) where
    more : t.job.sofar κ ≡ s.job.sofar κ + largest (block_extents o.cutting b) (own b) (order_of κ)
    more = D.step.sofar κ ∙ ap (λ (x : ℕ). s.job.sofar κ + x) n-is

    node_old : (c m : ℕ) → c ≢ b → node t.tables κ c m ≡ node s.tables κ c m
    unfolding node
    node_old c m n = ap (λ (x : ℕ). x + (m - 1)) (from_old κ lo c n)

    node_new : (m : ℕ) → node t.tables κ b m ≡ s.job.sofar κ + (m - 1)
    unfolding node
    node_new m = ap (λ (x : ℕ). x + (m - 1)) from-new

    -- an old number stands below the old tally
    old_below : (c m : ℕ) → c < blocks o.cutting → In o own B c → 0 < m → m ≤ largest (block_extents o.cutting c) (own c) (order_of κ) → node s.tables κ c m < s.job.sofar κ
    unfolding node
    old_below c m hc i h0 hm = omega (arith, J.from_in c hc i)

    from_in' : (c : ℕ) → c < blocks o.cutting → In o own B' c → from_of t.tables κ c + largest (block_extents o.cutting c) (own c) (order_of κ) ≤ t.job.sofar κ
    unfolding book_after entered B'
    from_in' c hc m = go (in_cases c m)
      where
        go : (c ≡ b) ⊎ ((c ≢ b) × In o own B c) → from_of t.tables κ c + largest (block_extents o.cutting c) (own c) (order_of κ) ≤ t.job.sofar κ
        go (inl e) = rw e (omega (arith, from-new, more))
        go (inr i) = omega (arith, from_old κ lo c i.0, J.from_in c hc i.1, more)

    cover' : (x : ℕ) → x < t.job.sofar κ → Numbered o own B' t κ x
    unfolding book_after entered B'
    cover' x h =
        by_test (ltb x (s.job.sofar κ))
        (λ q.
        let w : Numbered o own B s κ x = J.cover x (ltb-true _ _ q) in
        let n : w.b ≢ b = λ e. fresh (subst (In o own B) e w.in_book) in
        record { b = w.b; m = w.m; listed = w.listed; in_book = Memᴰ.tail w.in_book; positive = w.positive; most = w.most; is = w.is ∙ sym (node_old w.b w.m n) })
        (λ q.
        let g : s.job.sofar κ ≤ x = ltb-false _ _ q in
        record { b = b; m = suc (x - s.job.sofar κ); listed = hb; in_book = Memᴰ.head refl; positive = omega arith; most = omega (arith, more); is = omega (arith, node_new (suc (x - s.job.sofar κ))) })

    seen' : (c m : ℕ) → c < blocks o.cutting → In o own B' c → 0 < m → m ≤ largest (block_extents o.cutting c) (own c) (order_of κ)
        → first_at t.tables κ (node t.tables κ c m) ≡ embed o.cutting c (first_cell (block_extents o.cutting c) (own c) (order_of κ) m)
    unfolding book_after entered B' first_at
    seen' c m hc i h0 hm = go (in_cases c i)
      where
        enrolled_first : (m : ℕ) → key_position (enrolled_key o.cutting b (own b) κ m) ≡ first_of o.cutting b (component (block_extents o.cutting b) (own b) (order_of κ) m)
        enrolled_first m = unfold enrolled_key in key_first (first_of o.cutting b (component (block_extents o.cutting b) (own b) (order_of κ) m)) b (omega (arith, hb, blocks_most o.cutting good))

        at_b : (m : ℕ) → 0 < m → m ≤ largest (block_extents o.cutting b) (own b) (order_of κ) → key_position (get_or (t.tables.keys κ) (node t.tables κ b m) 0) ≡ embed o.cutting b (first_cell (block_extents o.cutting b) (own b) (order_of κ) m)
        at_b m h0 hm =
            let e : suc (m - 1) ≡ m = omega arith in
            ap₂ (λ (l : List ℕ) (x : ℕ). key_position (get_or l x 0)) E.keys (node_new m)
            ∙ ap key_position
            (overlay_at (s.tables.keys κ) (s.job.sofar κ) (λ i. enrolled_key s.job.told.cutting b (own b) κ (suc i)) (adds s (enrol b (own b)) κ) (m - 1) (omega (arith, n-is)) (omega (arith, I.sizes.keys_long κ, enough κ))
            ∙ ap (λ (z : Told). enrolled_key z.cutting b (own b) κ (suc (m - 1))) I.told
            ∙ ap (enrolled_key o.cutting b (own b) κ) e)
            ∙ enrolled_first m
            ∙ first_is o.cutting b (own b) (lab b hb) κ m h0 hm

        go : (c ≡ b) ⊎ ((c ≢ b) × In o own B c) → key_position (get_or (t.tables.keys κ) (node t.tables κ c m) 0) ≡ embed o.cutting c (first_cell (block_extents o.cutting c) (own c) (order_of κ) m)
        go (inl e) = subst (λ (x : ℕ). key_position (get_or (t.tables.keys κ) (node t.tables κ x m) 0) ≡ embed o.cutting x (first_cell (block_extents o.cutting x) (own x) (order_of κ) m)) (sym e)
            (at_b m h0 (subst (λ (x : ℕ). m ≤ largest (block_extents o.cutting x) (own x) (order_of κ)) e hm))
        go (inr j) =
            ap₂ (λ (l : List ℕ) (x : ℕ). key_position (get_or l x 0)) E.keys (node_old c m j.0)
            ∙ ap key_position (overlay_before (s.tables.keys κ) (s.job.sofar κ) _ (adds s (enrol b (own b)) κ) (node s.tables κ c m) (old_below c m hc j.1 h0 hm))
            ∙ J.seen c m hc j.1 h0 hm

    -- every place is alone
    alone_old : (x : ℕ) → x < s.job.sofar κ → root (s.tables.links κ) x ≡ x
    alone_old x h =
        let r : ℕ = root (s.tables.links κ) x in
        together_keeps (λ (z : ℕ). z) (λ y z e. absurd (none y z e)) ((J.linked.one r x (omega (arith, root_low (s.tables.links κ) x)) h).0 (root_idem (s.tables.links κ) x))

    -- a new link is 0
    zero_new : (x : ℕ) → x < t.job.sofar κ → s.job.sofar κ ≤ x → get_or (t.tables.links κ) x 0 ≡ 0
    zero_new x h g =
        let e : s.job.sofar κ + (x - s.job.sofar κ) ≡ x = omega arith in
        ap₂ (λ (l : List ℕ) (y : ℕ). get_or l y 0) E.links (sym e) ∙ overlay_at (s.tables.links κ) (s.job.sofar κ) (λ i. 0) (adds s (enrol b (own b)) κ) (x - s.job.sofar κ) (omega (arith, n-is, more)) (omega (arith, links-long, enough κ))

    alone : (x : ℕ) → x < t.job.sofar κ → root (t.tables.links κ) x ≡ x
    unfolding parent
    alone x h =
        by_test (ltb x (s.job.sofar κ))
        (λ q.
        let g : x < s.job.sofar κ = ltb-true _ _ q in
        let p : parent (s.tables.links κ) x ≡ x = own_root (s.tables.links κ) x (alone_old x g) in
        root_own (t.tables.links κ) x (ap (λ (l : List ℕ). x - get_or l x 0) E.links ∙ ap (λ (y : ℕ). x - y) (overlay_before (s.tables.links κ) (s.job.sofar κ) (λ i. 0) (adds s (enrol b (own b)) κ) x g) ∙ p))
        (λ q.
        root_own (t.tables.links κ) x (omega (arith, zero_new x h (ltb-false _ _ q))))

    sound' : (x : ℕ) → x < t.job.sofar κ → sound_at (t.tables.links κ) x ≡ true
    unfolding sound_at
    sound' x h =
        by_test (ltb x (s.job.sofar κ))
        (λ q.
        let g : x < s.job.sofar κ = ltb-true _ _ q in
        ap (λ (l : List ℕ). leb (get_or l x 0) x) E.links ∙ ap (λ (y : ℕ). leb y x) (overlay_before (s.tables.links κ) (s.job.sofar κ) (λ i. 0) (adds s (enrol b (own b)) κ) x g) ∙ J.linked.sound x g)
        (λ q. le-leb (get_or (t.tables.links κ) x 0) x (omega (arith, zero_new x h (ltb-false _ _ q))))

    linked' : Connected (t.tables.links κ) (t.job.sofar κ) (EdgeDone o own B' t κ)
    linked' = record {
      one = λ x y hx hy. (
        (λ e. same (sym (alone x hx) ∙ e ∙ alone y hy)),
        (λ l. ap (root (t.tables.links κ)) (together_keeps (λ (z : ℕ). z) (λ u v e. absurd (none' u v e)) l)),
      );
      sound = sound';
    }

    rows' : (c m i : ℕ) → c < blocks o.cutting → In o own B' c → 0 < m → m ≤ largest (block_extents o.cutting c) (own c) (order_of κ) → i < width κ
        → get_or (t.tables.rows κ) (width κ * node t.tables κ c m + i) 0 ≡ enrolled_row o.cutting (from_of t.tables Face c) c (own c) κ m i
    unfolding book_after entered B'
    rows' c m i hc j h0 hm hi = go (in_cases c j)
      where
        Goal : ℕ → Type 0
        Goal c = get_or (t.tables.rows κ) (width κ * node t.tables κ c m + i) 0 ≡ enrolled_row o.cutting (from_of t.tables Face c) c (own c) κ m i

        at_b : m ≤ largest (block_extents o.cutting b) (own b) (order_of κ) → Goal b
        at_b hm =
            let e : suc (m - 1) ≡ m = omega arith in
            let w : width κ * (s.job.sofar κ + adds s (enrol b (own b)) κ) ≤ width κ * o.entries κ = mul-le-mul_left (width κ) (enough κ) in
            ap₂ (λ (l : List ℕ) (x : ℕ). get_or l (width κ * x + i) 0) E.rows (node_new m)
            ∙ rows_at (s.tables.rows κ) (width κ) (s.job.sofar κ) (λ x j. enrolled_row s.job.told.cutting (s.job.sofar Face) b (own b) κ (suc x) j) (adds s (enrol b (own b)) κ) (m - 1) i (omega (arith, n-is)) hi
            (omega (arith, I.sizes.rows_long κ, w, mul-add (width κ) (s.job.sofar κ) (adds s (enrol b (own b)) κ)))
            ∙ ap (λ (z : Told). enrolled_row z.cutting (s.job.sofar Face) b (own b) κ (suc (m - 1)) i) I.told
            ∙ ap (λ (x : ℕ). enrolled_row o.cutting (s.job.sofar Face) b (own b) κ x i) e
            ∙ ap (λ (x : ℕ). enrolled_row o.cutting x b (own b) κ m i) (sym face_from)

        go : (c ≡ b) ⊎ ((c ≢ b) × In o own B c) → Goal c
        go (inl e) = subst Goal (sym e) (at_b (subst (λ (x : ℕ). m ≤ largest (block_extents o.cutting x) (own x) (order_of κ)) e hm))
        go (inr q) =
            ap₂ (λ (l : List ℕ) (x : ℕ). get_or l (width κ * x + i) 0) E.rows (node_old c m q.0)
            ∙ rows_before (s.tables.rows κ) (width κ) (s.job.sofar κ) _ (width κ * adds s (enrol b (own b)) κ) (node s.tables κ c m) i (old_below c m hc q.1 h0 hm) hi
            ∙ J.rows c m i hc q.1 h0 hm hi
            ∙ ap (λ (x : ℕ). enrolled_row o.cutting x c (own c) κ m i) (sym (from_old Face (omega arith) c q.0))

    kept_kind : Kept o own B' t κ
    kept_kind = record { from_in = from_in'; cover = cover'; seen = seen'; rows = rows'; linked = linked' }

  -- no edge is there yet
  none_before : (κ : Kind) (x y : ℕ) → EdgeDone o own B s κ x y → ⊥
  none_before Face x y e = no_step (seam_step o.cutting (edge e.b e.c)) (omega (arith, seam_level o.cutting (edge e.b e.c))) (Memᴰ.tail e.ticked_in_lem)
  none_before Curve x y (inl e) = no_step (seam_step o.cutting (edge e.b e.c)) (omega (arith, seam_level o.cutting (edge e.b e.c))) (Memᴰ.tail e.ticked_in_lem)
  none_before Curve x y (inr e) = no_step (crossing_step e.b) (omega (arith, crossing_level e.b)) (Memᴰ.tail e.ticked_in_lem)
  none_before Point x y e = e

  none_after : (κ : Kind) (x y : ℕ) → EdgeDone o own B' t κ x y → ⊥
  unfolding book_after entered B'
  none_after Face x y e = no_step (seam_step o.cutting (edge e.b e.c)) (omega (arith, seam_level o.cutting (edge e.b e.c))) e.ticked_in_lem
  none_after Curve x y (inl e) = no_step (seam_step o.cutting (edge e.b e.c)) (omega (arith, seam_level o.cutting (edge e.b e.c))) e.ticked_in_lem
  none_after Curve x y (inr e) = no_step (crossing_step e.b) (omega (arith, crossing_level e.b)) e.ticked_in_lem
  none_after Point x y e = e

  faces' : Kept o own B' t Face
  faces' = kept_kind Face (omega arith) D.faces I.faces adds_is.0 I.sizes.face_links face_from (none_before Face) (none_after Face)

  curves' : Kept o own B' t Curve
  curves' = kept_kind Curve (omega arith) D.curves I.curves adds_is.1 I.sizes.curve_links curve_from (none_before Curve) (none_after Curve)

  step_in : Memᴰ (enrol_step b) (steps_of o.cutting B.stage)
  step_in = subst (λ (z : Stage). Memᴰ (enrol_step b) (steps_of o.cutting z)) (sym at-enrol) (unfold steps_of in Memᴰ.map enrol_step (consecutive_in 0 (blocks o.cutting) (omega arith) (omega (arith, hb))))

  counts' : (κ : Kind) (c : ℕ) → c < blocks o.cutting → Memᴰ (enrol_step c) (enrol_step b ∷ B.done) → count_of t.tables κ c ≡ largest (block_extents o.cutting c) (own c) (order_of κ)
  counts' κ c hc m = go (in_cases c m)
    where
      go : (c ≡ b) ⊎ ((c ≢ b) × In o own B c) → count_of t.tables κ c ≡ largest (block_extents o.cutting c) (own c) (order_of κ)
      go (inl e) = subst (λ (x : ℕ). count_of t.tables κ x ≡ largest (block_extents o.cutting x) (own x) (order_of κ)) (sym e) (count_new κ)
      go (inr q) = count_old κ c q.0 ∙ I.counts κ c hc q.1

  maps' : (c : ℕ) → c < blocks o.cutting → Memᴰ (enrol_step c) (enrol_step b ∷ B.done) → cond (eqb c b) (own b) (B.maps c) ≡ own c
  maps' c hc m =
      picked (λ (l : List ℕ). l ≡ own c) (eqb c b) (own b) (B.maps c) (λ q. ap own (sym (eqb-true c b q)))
      (λ q. go q (in_cases c m))
    where
      go : eqb c b ≡ false → (c ≡ b) ⊎ ((c ≢ b) × In o own B c) → B.maps c ≡ own c
      go q (inl e) = absurd (eqb-false c b q e)
      go q (inr i) = I.maps c hc i.1

  kind_long : (κ : Kind) → (length (t.tables.keys κ) ≡ o.entries κ) × (length (t.tables.rows κ) ≡ width κ * o.entries κ)
  kind_long Face = (ap length D.faces.keys ∙ length-overlay _ _ _ _ ∙ I.sizes.keys_long Face, ap length D.faces.rows ∙ length-overlay _ _ _ _ ∙ I.sizes.rows_long Face)
  kind_long Curve = (ap length D.curves.keys ∙ length-overlay _ _ _ _ ∙ I.sizes.keys_long Curve, ap length D.curves.rows ∙ length-overlay _ _ _ _ ∙ I.sizes.rows_long Curve)
  kind_long Point = (ap length D.points.keys ∙ I.sizes.keys_long Point, ap length D.points.rows ∙ I.sizes.rows_long Point)

  sizes' : Sizes o t.tables
  sizes' =
      record {
        ticks_long = ap length D.step.ticks ∙ length-set s.tables.ticks (enrol_step b) 1 ∙ I.sizes.ticks_long;
        blocks_long = ap length D.blocks ∙ length-overlay s.tables.blocks (numbers_per_block * b) (block_entry s b (own b)) numbers_per_block ∙ I.sizes.blocks_long;
        face_links = ap length D.faces.links ∙ length-overlay _ _ _ _ ∙ I.sizes.face_links;
        curve_links = ap length D.curves.links ∙ length-overlay _ _ _ _ ∙ I.sizes.curve_links;
        keys_long = λ κ. (kind_long κ).0;
        rows_long = λ κ. (kind_long κ).1;
        numbers_long = λ κ. ap length (D.numbers κ).numbers ∙ I.sizes.numbers_long κ;
        firsts_long = λ κ. ap length (D.numbers κ).firsts ∙ I.sizes.firsts_long κ;
        listed_long = λ κ. ap length (D.numbers κ).listed ∙ I.sizes.listed_long κ;
      }

  pub enrol_keeps : Inv o own (book_after B (enrol b (own b))) t
  unfolding book_after entered B'
  enrol_keeps =
      record {
        told = told_kept o own B s t I c₀ st ticking mp step_low room.room Adds-same;
        btold = I.btold;
        stage = stage_kept o own B s t I c₀ st ticking mp step_low room.room Adds-same;
        ticks = ticks_kept o own B s t I c₀ st ticking mp step_low room.room Adds-same;
        sizes = sizes';
        sofar = sofar_kept o own B s t I c₀ st ticking mp step_low room.room Adds-same;
        room = room_kept o own B s t I c₀ st ticking mp step_low room.room Adds-same;
        numbered = λ κ. omega (arith, (D.numbers κ).numbered, I.numbered κ, D.step.sofar κ);
        progress = progress_kept o own B s t I c₀ st ticking mp step_low room.room Adds-same step_in;
        maps = maps';
        counts = counts';
        faces = faces';
        curves = curves';
        layers = λ c d z m. absurd (no_step (seam_step o.cutting (edge c d)) (omega (arith, seam_level o.cutting (edge c d))) m);
      }
    where
      c₀ : Call
      c₀ = enrol b (own b)

      st : ℕ
      st = enrol_step b

      ticking : Ticked s t c₀ st
      ticking = D.step

      mp : ℕ → List ℕ
      mp = λ c. cond (eqb c b) (own b) (B.maps c)
