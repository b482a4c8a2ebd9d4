-- Rows kept at enrolment, read over the final faces, are the rows of the uncut volume.
-- Assumes nothing.
use mathlib.Core.Bool.{cond, not, true}
use mathlib.Core.List.Memᴰ
use mathlib.Core.List.{List, Memᴰ, [], ◌∷◌, map, map-map}
use mathlib.Core.Logic.{◌≢◌}
use mathlib.Core.Path.{◌∙◌, ◌≡◌, ap, refl, subst, sym}
use Prim.Native.Nat.{◌*◌, ◌+◌, ◌-◌, ◌<◌, ◌≤◌, suc, zero, ℕ}
use native.Mathlib.Omega.{arith}
use lib.Dec.{eqb}
use lib.ListN.{get_or, length, length-map}
use borrow.Author.Tests.{eq-eqb, eqb-false, eqb-true, ne_eqb}
use Rattle.lists.specs.Lists.{consecutive, keep, tabulate}
use Rattle.cells.specs.declared.Triple.{Triple}
use Rattle.cells.specs.Grid.{cells, order, upper_neighbours}
use Rattle.cells.specs.Row.{occurrences, once, pad_to, row, row_of, sort_ascending}
use Rattle.labels.specs.Components.{component, component_row, first_cell, largest, row_at_first}
use Rattle.labels.specs.Numbering.{Numbering}
use Rattle.cutting.specs.Cutting.{Cutting, block_extents, blocks, embed, good_cut}
use Rattle.cutting.specs.Nodes.{part, uncut_map}
use Rattle.joiner.specs.Declines.{final_of}
use Rattle.joiner.specs.Outcomes.{final_face, row_at, row_final, shifted}
use Rattle.joiner.specs.Job.{Curve, Face, Kind, Tables, from_of, node, order_of}
use Rattle.lists.proofs.Cases.{by_test}
use Rattle.lists.proofs.Lists.{consecutive_out, keep_out, length-keep, map-consecutive_suc, map_same}
use Rattle.cells.proofs.GridLaws.{Upper, length_up, upper_neighbour}
use Rattle.cells.proofs.RowFacts.{occurrences_sort, occurs}
use Rattle.cells.proofs.RowLaws.{get_or-pad, once_positive, length-sort}
use Rattle.labels.proofs.ComponentLaws.{component_in}
use Rattle.labels.proofs.CountLaws.{Somewhere, every_number}
use Rattle.cutting.proofs.BlockLaws.{carried, face_apart, row_through_lem, zero_down, zero_up}
use Rattle.cutting.proofs.RenameLaws.{Tells, once_list, sort_map}
use Rattle.joiner.proofs.Classes.{Layout, cell_sees, node_inside, order_small, vol, vol_node}

-- the row of a component is that of its first cell
pub component_row_first : (e : Triple) (codes m : List ℕ) → Numbering e codes m → (j : ℕ) → j < 3 → (n : ℕ) → 0 < n → n ≤ largest e m j → component_row e m j n ≡ row e m (first_cell e m j n)
unfolding component_row first_cell row_at_first
component_row_first e codes m M j lj n h0 hn = go (component e m j n) has
  where
    w : Somewhere e m j n
    w = every_number e codes m M j lj n h0 hn

    has : Memᴰ w.p (component e m j n)
    has = subst (λ (i : ℕ). Memᴰ w.p (component e m i n)) w.there.level (subst (λ (x : ℕ). Memᴰ w.p (component e m (order e w.p) x)) w.there.has (component_in e m w.there.within))

    go : (c : List ℕ) {p : ℕ} → Memᴰ p c → row_at_first e m c ≡ row e m (get_or c 0 0)
    go [] h = absurd (Memᴰ.not-nil h)
    go (p ∷ c) h = refl

-- ---- lists

padded : (h : ℕ → ℕ) (n : ℕ) (l : List ℕ) → tabulate n (λ i. h (get_or l i 0)) ≡ map h (pad_to n l)
unfolding consecutive tabulate
padded h zero l = refl
padded h (suc n) [] = ap {B = List ℕ} (λ r. h 0 ∷ r) (map-consecutive_suc (λ i. h (get_or [] i 0)) 0 n ∙ padded h n [])
padded h (suc n) (x ∷ l) = ap {B = List ℕ} (λ r. h x ∷ r) (map-consecutive_suc (λ i. h (get_or (x ∷ l) i 0)) 0 n ∙ padded h n l)

drop-zeros : (g : ℕ → ℕ) (n : ℕ) (l : List ℕ) → g 0 ≡ 0 → length l ≤ n → ((y : ℕ) → Memᴰ y l → g y ≢ 0) → keep (λ n. not (eqb n 0)) (map g (pad_to n l)) ≡ map g l
drop-zeros g zero [] z h p = refl
drop-zeros g (suc n) [] z h p = rw (eq-eqb (g 0) 0 z) (drop-zeros g n [] z (omega arith) p)
drop-zeros g zero (x ∷ l) z h p = absurd (omega arith)
drop-zeros g (suc n) (x ∷ l) z h p = rw (ne_eqb (g x) 0 (p x (Memᴰ.head refl))) (ap {B = List ℕ} (λ r. g x ∷ r) (drop-zeros g n l z (omega arith) (λ y m. p y (Memᴰ.tail m))))

-- the entries of a sorted list are those of the list
there_occurs : (l : List ℕ) (x : ℕ) → 0 < occurrences x l → Memᴰ x l
there_occurs [] x h = absurd (omega arith)
there_occurs (y ∷ l) x h = by_test (eqb y x) (λ t. Memᴰ.head (sym (eqb-true y x t))) (λ t. Memᴰ.tail (there_occurs l x (rw t at h)))

sort_out : (l : List ℕ) {x : ℕ} → Memᴰ x (sort_ascending l) → Memᴰ x l
sort_out l {x} m = there_occurs l x (omega (arith, occurs (sort_ascending l) m, occurrences_sort x l))

f_of : (a : ℕ) (l : List ℕ) (y : ℕ) → cond (eqb (cond (eqb y 0) 0 (a + y)) 0) 0 (get_or l (cond (eqb y 0) 0 (a + y) - 1) 0) ≡ cond (eqb y 0) 0 (get_or l (a + (y - 1)) 0)
f_of a l y =
    by_test (eqb y 0) (λ e. rw e refl)
    (λ e. let d : y ≢ 0 = eqb-false y 0 e in let q : a + y - 1 ≡ a + (y - 1) = omega arith in rw (e, ne_eqb (a + y) 0 (λ z. omega arith)) (ap (λ (j : ℕ). get_or l j 0) q))

-- ---- final numbers

-- the final number of a face or curve cell is what it holds in the volume
pub final_cell : (k : Cutting) (good : good_cut k ≡ true) (codes : List ℕ) (t : Tables) (κ : Kind) (lo : 0 < order_of κ) (n : ℕ) → Layout k codes t κ n → ((x : ℕ) → x < n → get_or (t.numbers κ) x 0 ≡ vol k codes t κ x)
    → (b : ℕ) → b < blocks k → (q : ℕ) → q < cells (block_extents k b) → order (block_extents k b) q ≡ order_of κ → final_of t κ b (get_or (part k codes b) q 0) ≡ get_or (uncut_map k codes) (embed k b q) 0
unfolding final_of
final_cell k good codes t κ lo n lay nums b hb q hq l =
    by_test (eqb (get_or (part k codes b) q 0) 0)
    (λ e. rw e (sym (zero_up k good codes b hb (order_of κ) (order_small κ) (carried k good codes (order_of κ) lo (order_small κ) b hb) q hq l (eqb-true _ _ e))))
    (λ e.
    let s = cell_sees k good codes κ b q hb hq l (eqb-false _ _ e) in
    rw e (nums (node t κ b (get_or (part k codes b) q 0)) (node_inside k good codes t κ n lo lay s) ∙ vol_node k good codes t κ n lo lay s))

-- ---- rows over the final faces

module _ (k : Cutting) (good : good_cut k ≡ true) (codes : List ℕ) (t : Tables) (n : ℕ) (lay : Layout k codes t Face n) (nums : (x : ℕ) → x < n → get_or (t.numbers Face) x 0 ≡ vol k codes t Face x) (b : ℕ) (hb : b < blocks k)
    (p : ℕ) (hp : p < cells (block_extents k b)) (op : order (block_extents k b) p ≡ 1) where
  g : ℕ → ℕ
  g y = final_of t Face b y

  xs : List ℕ
  xs = map (λ q. get_or (part k codes b) q 0) (upper_neighbours (block_extents k b) p)

  ys : List ℕ
  ys = sort_ascending (keep (once xs) xs)

  at : (q : ℕ) → Memᴰ q (upper_neighbours (block_extents k b) p) → (q < cells (block_extents k b)) × (order (block_extents k b) q ≡ 2)
  at q m = let u : Upper (block_extents k b) p q = upper_neighbour (block_extents k b) p hp m in (u.within, u.higher ∙ ap suc op)

  g_is : (q : ℕ) → Memᴰ q (upper_neighbours (block_extents k b) p) → g (get_or (part k codes b) q 0) ≡ get_or (uncut_map k codes) (embed k b q) 0
  unfolding g
  g_is q m = final_cell k good codes t Face (omega arith) n lay nums b hb q (at q m).0 (at q m).1

  g_nought : g 0 ≡ 0
  unfolding g final_of
  g_nought = refl

  tells : Tells g xs
  unfolding xs
  tells =
      record {
        nought = g_nought;
        zeros = λ x m e.
            let r = Memᴰ.of_map (λ q. get_or (part k codes b) q 0) (upper_neighbours (block_extents k b) p) m in
            sym r.2 ∙ zero_down k good codes b hb 2 (omega arith) (carried k good codes 2 (omega arith) (omega arith) b hb) r.0 (at r.0 r.1).0 (at r.0 r.1).1 (sym (g_is r.0 r.1) ∙ ap g r.2 ∙ e);
        apart = λ x y m i e.
            let r = Memᴰ.of_map (λ q. get_or (part k codes b) q 0) (upper_neighbours (block_extents k b) p) m in
            let s = Memᴰ.of_map (λ q. get_or (part k codes b) q 0) (upper_neighbours (block_extents k b) p) i in
            sym r.2 ∙ face_apart k good codes b hb p hp op r.0 s.0 r.1 s.1 (sym (g_is r.0 r.1) ∙ ap g r.2 ∙ e ∙ ap g (sym s.2) ∙ g_is s.0 s.1) ∙ s.2;
      }

  -- the row in the volume
  row_is : row k.extents (uncut_map k codes) (embed k b p) ≡ pad_to 6 (sort_ascending (map g ys))
  unfolding xs ys row_of
  row_is =
      row_through_lem k good b hb (uncut_map k codes) p hp
      ∙ ap row_of (map_same (λ q. get_or (uncut_map k codes) (embed k b q) 0) (λ q. g (get_or (part k codes b) q 0)) (upper_neighbours (block_extents k b) p) (λ q m. sym (g_is q m)) ∙ sym (map-map g (λ q. get_or (part k codes b) q 0) (upper_neighbours (block_extents k b) p)))
      ∙ ap (λ (l : List ℕ). pad_to 6 (sort_ascending l)) (once_list g xs tells)
      ∙ ap (pad_to 6) (sym (sort_map g (keep (once xs) xs)))

  ys_short : length ys ≤ 4
  unfolding xs ys
  ys_short = omega (arith, length-sort (keep (once xs) xs), length-keep (once xs) xs, length-map (upper_neighbours (block_extents k b) p) (λ q. get_or (part k codes b) q 0), length_up (block_extents k b) p, op)

  ys_more : (y : ℕ) → Memᴰ y ys → g y ≢ 0
  unfolding ys
  ys_more y m z =
      let x = keep_out (once xs) xs (sort_out (keep (once xs) xs) m) in
      omega (arith, tells.zeros y x.0 z, once_positive xs y x.1)

  -- what the closed table holds of a curve that begins at this cell
  pub curve_kept : (x : ℕ) → ((i : ℕ) → i < 4 → get_or (t.rows Curve) (4 * x + i) 0 ≡ shifted (from_of t Face b) Curve (get_or (row (block_extents k b) (part k codes b) p) i 0))
      → (i : ℕ) → i < 4 → get_or (row_final t Curve x) i 0 ≡ get_or (row k.extents (uncut_map k codes) (embed k b p)) i 0
  unfolding row_final row_at tabulate
  curve_kept x stored i hi =
      ap (λ (l : List ℕ). get_or (pad_to 4 (sort_ascending (keep (λ n. not (eqb n 0)) l))) i 0) same_rows
      ∙ ap (λ (l : List ℕ). get_or (pad_to 4 (sort_ascending l)) i 0) (drop-zeros g 4 ys g_nought ys_short ys_more)
      ∙ get_or-pad 4 i (sort_ascending (map g ys)) hi
      ∙ sym (get_or-pad 6 i (sort_ascending (map g ys)) (omega arith))
      ∙ ap (λ (l : List ℕ). get_or l i 0) (sym row_is)
    where
      f_shift : (y : ℕ) → final_face t (shifted (from_of t Face b) Curve y) ≡ g y
      f_shift y = unfold shifted g final_of node final_face in f_of (from_of t Face b) (t.numbers Face) y

      entry : (i : ℕ) → i < 4 → final_face t (get_or (t.rows Curve) (4 * x + i) 0) ≡ g (get_or ys i 0)
      entry i h = ap (final_face t) (stored i h) ∙ f_shift (get_or (row (block_extents k b) (part k codes b) p) i 0) ∙ ap g (unfold row row_of xs ys in get_or-pad 6 i (sort_ascending (keep (once xs) xs)) (omega arith))

      same_rows : map (final_face t) (map (λ i. get_or (t.rows Curve) (4 * x + i) 0) (consecutive 0 4)) ≡ map g (pad_to 4 ys)
      same_rows =
          map-map (final_face t) (λ i. get_or (t.rows Curve) (4 * x + i) 0) (consecutive 0 4)
          ∙ map_same (λ i. final_face t (get_or (t.rows Curve) (4 * x + i) 0)) (λ i. g (get_or ys i 0)) (consecutive 0 4) (λ i m. entry i (omega (arith, consecutive_out 0 4 m)))
          ∙ padded g 4 ys
