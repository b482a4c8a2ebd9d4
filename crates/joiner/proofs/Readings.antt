-- Readings of a closed job give what the uncut volume has.
-- Assumes nothing.
use mathlib.Core.Bool.{◌&&◌, cond, false, true}
use mathlib.Core.List.{List, [], ◌∷◌}
use mathlib.Core.Logic.{◌≢◌}
use mathlib.Core.Path.{◌∙◌, ◌≡◌, ap, ap₂, refl, subst, sym}
use Prim.Native.Nat.{◌*◌, ◌+◌, ◌-◌, ◌/◌, ◌<◌, ◌≤◌, suc, zero, ℕ}
use native.Mathlib.Nat.{mul-le-mul_left}
use native.Mathlib.Omega.{arith}
use lib.Dec.{eqb, ltb}
use lib.ListN.{drop, get_or, length, length-drop, length-take, take}
use lib.Seq.{ext_get_or, get_or-drop, get_or-take}
use borrow.Author.Tests.{eq-eqb, eqb-false, eqb-true, lt-ltb, ltb-false, ltb-true}
use Rattle.cells.specs.Box.{index}
use Rattle.cells.specs.declared.Triple.{Triple}
use Rattle.cells.specs.Grid.{cells, order, sides}
use Rattle.cells.specs.Row.{active, pad_to}
use Rattle.labels.specs.Components.{component_row, first_cell, largest}
use Rattle.labels.specs.Number.{labels}
use Rattle.labels.specs.Numbering.{Numbering}
use Rattle.cutting.specs.Cutting.{block_extents, blocks, embed, good_cut}
use Rattle.joiner.specs.Book.{Book, uncut}
use Rattle.joiner.specs.Declines.{final_of}
use Rattle.joiner.specs.Outcomes.{bisect, cell_number, looked_up, point_number, row_taken}
use Rattle.joiner.specs.Job.{Curve, Face, Kind, Point, Points, State, Told, order_of, stage_number, width}
use Rattle.joiner.specs.Stages.{codes_of, has_cell, local}
use Rattle.joiner.specs.Statement.{Labelling}
use Rattle.lists.proofs.Cases.{and_first, and_second, by_test, picked}
use Rattle.lists.proofs.Overlay.{front_at, row_place, row_split}
use Rattle.cells.proofs.GridLaws.{order_most}
use Rattle.cells.proofs.RowLaws.{get_or-pad}
use Rattle.labels.proofs.ComponentLaws.{Belongs, belongs_at}
use Rattle.labels.proofs.CountLaws.{every_number, first_cells_ascend, largest_bound, member_active}
use Rattle.labels.proofs.LabelLaws.{labels_numbering, point_alone}
use Rattle.cutting.proofs.BlockLaws.{voxel_same}
use Rattle.cutting.proofs.CutLaws.{embed_inside, embed_order}
use Rattle.joiner.proofs.Codes.{cell_in_block}
use Rattle.joiner.proofs.Final.{Final, layout, part_is, uncut_is, volume_map}
use Rattle.joiner.proofs.Inv.{Inv, Kept}
use Rattle.joiner.proofs.RowsFinal.{final_cell}

-- ---- bisection

module _ (xs : List ℕ) (n v : ℕ) (ascending : (i j : ℕ) → i < j → j < n → get_or xs i 0 < get_or xs j 0) where
  -- r parts the m places from lo on: below v before it, not below v from it on
  record Parts (lo m r : ℕ) : Type 0 where
    low : lo ≤ r
    high : r ≤ lo + m
    below : (j : ℕ) → lo ≤ j → j < r → get_or xs j 0 < v
    above : (j : ℕ) → r ≤ j → j < lo + m → v ≤ get_or xs j 0

  ascends_le : (i j : ℕ) → i ≤ j → j < n → get_or xs i 0 ≤ get_or xs j 0
  ascends_le i j h l = by_test (ltb i j) (λ t. omega (arith, ascending i j (ltb-true i j t) l)) (λ t. let e : i ≡ j = omega (arith, ltb-false i j t) in rw e (omega arith))

  bisect_parts : (f lo m : ℕ) → m ≤ f → lo + m ≤ n → Parts lo m (bisect f xs lo m v)
  unfolding bisect
  bisect_parts zero lo m h l = record { low = omega arith; high = omega arith; below = λ j a b. absurd (omega arith); above = λ j a b. absurd (omega arith) }
  bisect_parts (suc f) lo m h l =
      picked (Parts lo m) (eqb m 0) lo (cond (ltb (get_or xs (lo + m / 2) 0) v) (bisect f xs (suc (lo + m / 2)) (m - suc (m / 2)) v) (bisect f xs lo (m / 2) v))
      (λ z. let e : m ≡ 0 = eqb-true m 0 z in record { low = omega arith; high = omega arith; below = λ j a b. absurd (omega arith); above = λ j a b. absurd (omega arith) })
      (λ z.
      let d : m ≢ 0 = eqb-false m 0 z in
      picked (Parts lo m) (ltb (get_or xs (lo + m / 2) 0) v) (bisect f xs (suc (lo + m / 2)) (m - suc (m / 2)) v) (bisect f xs lo (m / 2) v)
      (λ t. later d (ltb-true _ _ t) (bisect_parts f (suc (lo + m / 2)) (m - suc (m / 2)) (omega arith) (omega arith)))
      (λ t. sooner d (ltb-false _ _ t) (bisect_parts f lo (m / 2) (omega arith) (omega arith))))
    where
      later : {r : ℕ} → m ≢ 0 → get_or xs (lo + m / 2) 0 < v → Parts (suc (lo + m / 2)) (m - suc (m / 2)) r → Parts lo m r
      later {r} d a P =
          record {
            low = omega (arith, P.low);
            high = omega (arith, d, P.high);
            below = λ j p q. by_test (ltb (lo + m / 2) j) (λ t. P.below j (ltb-true _ _ t) q) (λ t. omega (arith, a, ascends_le j (lo + m / 2) (ltb-false (lo + m / 2) j t) (omega (arith, d))));
            above = λ j p q. P.above j p (omega (arith, d, q));
          }

      sooner : {r : ℕ} → m ≢ 0 → v ≤ get_or xs (lo + m / 2) 0 → Parts lo (m / 2) r → Parts lo m r
      sooner {r} d a P =
          record {
            low = P.low;
            high = omega (arith, P.high);
            below = P.below;
            above = λ j p q. by_test (ltb j (lo + m / 2)) (λ t. P.above j p (ltb-true _ _ t)) (λ t. omega (arith, a, ascends_le (lo + m / 2) j (ltb-false j (lo + m / 2) t) (omega (arith, q, l))));
          }

  r : ℕ
  r = bisect n xs 0 n v

  parts : Parts 0 n r
  unfolding r
  parts = bisect_parts n 0 n (omega arith) (omega arith)

  pub number_found : (i : ℕ) → i < n → get_or xs i 0 ≡ v → point_number xs n v ≡ suc i
  unfolding point_number r
  number_found i h e =
      let a : r ≤ i = by_test (ltb i r) (λ t. absurd (omega (arith, parts.below i (omega arith) (ltb-true i r t)))) (λ t. ltb-false i r t) in
      let b : v ≤ get_or xs r 0 = parts.above r (omega arith) (omega arith) in
      let c : r ≡ i = by_test (ltb r i) (λ t. absurd (omega (arith, ascending r i (ltb-true r i t) h))) (λ t. omega (arith, ltb-false r i t)) in
      rw (lt-ltb r n (omega arith), eq-eqb (get_or xs r 0) v (ap (λ (j : ℕ). get_or xs j 0) c ∙ e)) (ap suc c)

  pub number_missing : ((i : ℕ) → i < n → get_or xs i 0 ≢ v) → point_number xs n v ≡ 0
  unfolding point_number r
  number_missing h =
      by_test (ltb r n && eqb (get_or xs r 0) v)
      (λ t. absurd (h r (ltb-true r n (and_first (ltb r n) (eqb (get_or xs r 0) v) t)) (eqb-true _ _ (and_second (ltb r n) (eqb (get_or xs r 0) v) t))))
      (λ t. rw t refl)

order_low : (e : Triple) (p : ℕ) → order e p ≢ 3 → order e p ≢ 2 → order e p ≢ 1 → order e p ≡ 0
order_low e p a b c = omega (arith, order_most e p)

pad_long : (n : ℕ) (l : List ℕ) → length (pad_to n l) ≡ n
pad_long zero l = refl
pad_long (suc n) [] = ap suc (pad_long n [])
pad_long (suc n) (x ∷ l) = ap suc (pad_long n l)

width_most : (w a b : ℕ) → 0 < a → a ≤ b → w * (a - 1) + w ≤ w * b
width_most w a b h l =
    let m : w * a ≤ w * b = mul-le-mul_left w l in
    let q : a ≡ suc (a - 1) = omega arith in
    let r : w * a ≡ w * suc (a - 1) = ap (λ (x : ℕ). w * x) q in
    omega arith

-- ---- the point at a position

module _ (e : Triple) (codes xs : List ℕ) (firsts_are : (i : ℕ) → i < largest e (labels e codes) 0 → get_or xs i 0 ≡ first_cell e (labels e codes) 0 (suc i)) where
  uncut_numbering : Numbering e codes (labels e codes)
  uncut_numbering = labels_numbering e codes

  rises : (i j : ℕ) → i < j → j < largest e (labels e codes) 0 → get_or xs i 0 < get_or xs j 0
  rises i j h l =
      subst (λ (a : ℕ). a < get_or xs j 0) (sym (firsts_are i (omega arith)))
      (subst (λ (b : ℕ). first_cell e (labels e codes) 0 (suc i) < b) (sym (firsts_are j l)) (first_cells_ascend e codes (labels e codes) uncut_numbering 0 (omega arith) (suc i) (suc j) (omega arith) (omega arith) (omega arith)))

  pub point_listed : (q : ℕ) → q < cells e → order e q ≡ 0 → point_number xs (largest e (labels e codes) 0) q ≡ get_or (labels e codes) q 0
  point_listed q hq o = by_test (active e (labels e codes) q) yes no
    where
      first_active : (N : ℕ) → 0 < N → N ≤ largest e (labels e codes) 0 → Belongs e (labels e codes) 0 N (first_cell e (labels e codes) 0 N)
      first_active N h0 hN = let w = every_number e codes (labels e codes) uncut_numbering 0 (omega arith) N h0 hN in belongs_at e (labels e codes) 0 N w.p w.there.within w.there.level w.there.has

      yes : active e (labels e codes) q ≡ true → point_number xs (largest e (labels e codes) 0) q ≡ get_or (labels e codes) q 0
      yes a =
          let N : ℕ = get_or (labels e codes) q 0 in
          let h0 : 0 < N = uncut_numbering.positive q hq a in
          let hN : N ≤ largest e (labels e codes) 0 = subst (λ (j : ℕ). get_or (labels e codes) q 0 ≤ largest e (labels e codes) j) o (largest_bound e (labels e codes) q hq) in
          let b : Belongs e (labels e codes) 0 N (first_cell e (labels e codes) 0 N) = belongs_at e (labels e codes) 0 N q hq o refl in
          let f : ℕ = first_cell e (labels e codes) 0 N in
          let c : f ≡ q = point_alone e (labels e codes) b.level ((uncut_numbering.shared f q b.within hq (b.level ∙ sym o) (member_active e codes (omega arith) h0 b) a).0 b.has) in
          let s : suc (N - 1) ≡ N = omega arith in
          number_found xs (largest e (labels e codes) 0) q rises (N - 1) (omega arith) (firsts_are (N - 1) (omega arith) ∙ ap (first_cell e (labels e codes) 0) s ∙ c) ∙ s

      no : active e (labels e codes) q ≡ false → point_number xs (largest e (labels e codes) 0) q ≡ get_or (labels e codes) q 0
      no a =
          number_missing xs (largest e (labels e codes) 0) q rises
          (λ i h z.
          let b = first_active (suc i) (omega arith) (omega arith) in
          absurd (omega (arith, sym b.has ∙ ap (λ (p : ℕ). get_or (labels e codes) p 0) (sym (firsts_are i h) ∙ z) ∙ uncut_numbering.inactive q hq (omega (arith, o)) a)))
          ∙ sym (uncut_numbering.inactive q hq (omega (arith, o)) a)

-- ---- a closed job

module _ (o : Told) (own : ℕ → List ℕ) (good : good_cut o.cutting ≡ true) (lab : (b : ℕ) → b < blocks o.cutting → Labelling (block_extents o.cutting b) (own b)) (B : Book) (s : State) (I : Inv o own B s)
    (late : stage_number Points ≤ stage_number B.stage) (all-final : (κ : Kind) → Final o own good lab s κ) where
  abbrev Vm : List ℕ
  Vm = volume_map o own good lab

  fits_in : (κ : Kind) → s.job.numbered κ ≤ o.entries κ
  fits_in κ = omega (arith, I.numbered κ, I.sofar κ, I.room κ)

  -- a row
  pub row_read : (κ : Kind) (n : ℕ) → 0 < n → n ≤ s.job.numbered κ → row_taken s κ n ≡ pad_to (width κ) (component_row B.told.cutting.extents (uncut B) (order_of κ) n)
  unfolding row_taken
  row_read κ n h0 hn =
      ext_get_or 0 (take (width κ) (drop (width κ * (n - 1)) (s.tables.listed κ))) (pad_to (width κ) (component_row o.cutting.extents Vm (order_of κ) n)) (long ∙ sym (pad_long (width κ) _)) entry
      ∙ sym (ap₂ (λ (z : Told) (m : List ℕ). pad_to (width κ) (component_row z.cutting.extents m (order_of κ) n)) I.btold (uncut_is o own good lab B s I late))
    where
      long : length (take (width κ) (drop (width κ * (n - 1)) (s.tables.listed κ))) ≡ width κ
      long =
          let a = length-take (width κ) (drop (width κ * (n - 1)) (s.tables.listed κ)) in
          let b = length-drop (width κ * (n - 1)) (s.tables.listed κ) in
          let c : width κ * (n - 1) + width κ ≤ width κ * o.entries κ = width_most (width κ) n (o.entries κ) h0 (omega (arith, fits_in κ)) in
          omega (arith, a, b, c, I.sizes.listed_long κ)

      entry : (i : ℕ) → i < length (take (width κ) (drop (width κ * (n - 1)) (s.tables.listed κ))) → get_or (take (width κ) (drop (width κ * (n - 1)) (s.tables.listed κ))) i 0 ≡ get_or (pad_to (width κ) (component_row o.cutting.extents Vm (order_of κ) n)) i 0
      entry i h =
          let hi : i < width κ = omega (arith, long) in
          let j : ℕ = width κ * (n - 1) + i in
          let q = row_split (width κ) (n - 1) i hi in
          let e : suc (n - 1) ≡ n = omega arith in
          get_or-take (width κ) (drop (width κ * (n - 1)) (s.tables.listed κ)) i 0 hi
          ∙ get_or-drop (width κ * (n - 1)) (s.tables.listed κ) i 0
          ∙ front_at (s.tables.listed κ) (width κ * s.job.numbered κ) _ (all-final κ).rows j (row_place (width κ) (n - 1) (s.job.numbered κ) i (omega arith) hi)
          ∙ ap₂ (λ (x y : ℕ). get_or (component_row o.cutting.extents Vm (order_of κ) (suc x)) y 0) q.0 q.1
          ∙ ap (λ (x : ℕ). get_or (component_row o.cutting.extents Vm (order_of κ) x) i 0) e
          ∙ sym (get_or-pad (width κ) i (component_row o.cutting.extents Vm (order_of κ) n) hi)

  -- a cell
  pub cell_read : (b : ℕ) (c : Triple) → b < blocks o.cutting → has_cell o.cutting b c ≡ true → looked_up s b (own b) c ≡ get_or (uncut B) (index (sides B.told.cutting.extents) c) 0
  unfolding looked_up
  cell_read b c hb h =
      ap (λ (z : Told). cell_number z.cutting s.tables (s.job.numbered Point) b (own b) c (local z.cutting b c)) I.told
      ∙ looked_up_lem
      ∙ ap (λ (x : ℕ). get_or Vm x 0) p_is.1
      ∙ sym (ap₂ (λ (z : Told) (m : List ℕ). get_or m (index (sides z.cutting.extents) c) 0) I.btold (uncut_is o own good lab B s I late))
    where
      cs : List ℕ
      cs = codes_of o.cutting own

      p : ℕ
      p = local o.cutting b c

      p_is : (p < cells (block_extents o.cutting b)) × (embed o.cutting b p ≡ index (sides o.cutting.extents) c)
      p_is = cell_in_block o.cutting good b hb c h

      d : ℕ
      d = order (block_extents o.cutting b) p

      -- a face or curve by its final number
      final : (κ : Kind) → 0 < order_of κ → Kept o own B s κ → d ≡ order_of κ → final_of s.tables κ b (get_or (own b) p 0) ≡ get_or Vm (embed o.cutting b p) 0
      final κ lo J e =
          ap (λ (l : List ℕ). final_of s.tables κ b (get_or l p 0)) (part_is o own good lab B s I late b hb)
          ∙ final_cell o.cutting good cs s.tables κ lo (s.job.sofar κ) (layout o own good lab B s I late κ J) (all-final κ).numbers b hb p p_is.0 e

      -- a point by its position
      points : d ≡ 0 → point_number (s.tables.firsts Point) (s.job.numbered Point) (index (sides o.cutting.extents) c) ≡ get_or Vm (embed o.cutting b p) 0
      points z =
          ap₂ (λ (n x : ℕ). point_number (s.tables.firsts Point) n x) (all-final Point).total (sym p_is.1)
          ∙ point_listed o.cutting.extents cs (s.tables.firsts Point)
          (λ i hi. front_at (s.tables.firsts Point) (s.job.numbered Point) _ (all-final Point).firsts i (omega (arith, hi, (all-final Point).total)))
          (embed o.cutting b p) (embed_inside o.cutting good b hb p p_is.0) (embed_order o.cutting good b hb p p_is.0 ∙ z)

      looked_up_lem : cell_number o.cutting s.tables (s.job.numbered Point) b (own b) c p ≡ get_or Vm (embed o.cutting b p) 0
      looked_up_lem =
          unfold cell_number in
          by_test (eqb d 3)
          (λ e. rw e (ap (λ (l : List ℕ). get_or l p 0) (part_is o own good lab B s I late b hb) ∙ voxel_same o.cutting good cs b hb p p_is.0 (eqb-true d 3 e)))
          (λ e3. by_test (eqb d 2)
          (λ e. rw (e3, e) (final Face (omega arith) I.faces (eqb-true d 2 e)))
          (λ e2. by_test (eqb d 1)
          (λ e. rw (e3, e2, e) (final Curve (omega arith) I.curves (eqb-true d 1 e)))
          (λ e1. rw (e3, e2, e1) (points (order_low (block_extents o.cutting b) p (eqb-false d 3 e3) (eqb-false d 2 e2) (eqb-false d 1 e1))))))
