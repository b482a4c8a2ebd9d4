-- The own face cells of all blocks are the face cells of the volume, each once.
-- Assumes nothing.
use mathlib.Core.Path.{◌≡◌, refl, sym, ap, ◌∙◌, subst}
use mathlib.Core.Bool.{true, false}
use mathlib.Core.List.Memᴰ
use mathlib.Core.List.{List, [], ◌∷◌, ◌++◌, map, Memᴰ}
use mathlib.Core.Logic.{⊎_elim}
use Prim.Native.Nat.{ℕ, ◌<◌}
use native.Mathlib.Omega.{arith}
use lib.Dec.{eqb}
use borrow.Author.Tests.{eqb-true, eq-eqb}
use Rattle.lists.specs.Lists.{consecutive, keep}
use Rattle.lists.proofs.Cases.{by_test}
use Rattle.lists.proofs.Lists.{Ascends, ascends_consecutive, ascends_keep, consecutive_in, consecutive_out, keep_in, keep_out}
use Rattle.cells.specs.Box.{place}
use Rattle.cells.specs.declared.Triple.{Triple}
use Rattle.cells.specs.Grid.{sides, cells, order}
use Rattle.cells.proofs.BoxLaws.{index_place}
use Rattle.labels.specs.Components.{of_order}
use Rattle.labels.proofs.ComponentLaws.{of_order_in, of_order_out}
use Rattle.cutting.specs.Cutting.{Cutting, blocks, good_cut, block_extents, embed}
use Rattle.cutting.proofs.CutLaws.{embed_inside, embed_order, embed_same}
use Rattle.joiner.specs.Stages.{local, lowest_block}
use Rattle.joiner.proofs.Codes.{cell_in_block, block_has_cell, lowest_has_cell}
use Rattle.strains.specs.Readings.{Reordered}
use Rattle.totals.specs.Totals.{Taken}
use Rattle.strain_calls.specs.Adding.{is_lowest, gathered}
use Rattle.lowest.specs.Lowest.{own_cell, starts}
use Rattle.lowest.proofs.LowestLaws.{own_lowest}
use Rattle.pass_strain.specs.BlockReadings.{Brought, own_face, cell_taken, block_taken}
use Rattle.pass_strain.proofs.TakenLaws.{gathered_append}
use Rattle.theory_totals.specs.Volume.{taken_by, taken_at}
use Rattle.theory_totals.proofs.Reordering.{NoRepeats, re_unique, unique_ascends, unique_map, spread, spread_out, unique_spread}

-- ---- the cells of one order

of_order_at : (e : Triple) (j : ℕ) {p : ℕ} → p < cells e → order e p ≡ j → Memᴰ p (of_order e j)
of_order_at e j {p} h o = subst (λ (i : ℕ). Memᴰ p (of_order e i)) o (of_order_in e h)

order_ascends : (e : Triple) (j : ℕ) → Ascends 0 (of_order e j)
unfolding of_order
order_ascends e j = ascends_keep (λ p. eqb (order e p) j) 0 (consecutive 0 (cells e)) (ascends_consecutive 0 (cells e))

pub lowest_true : (k : Cutting) (b p : ℕ) → lowest_block k (place (sides k.extents) (embed k b p)) ≡ b → is_lowest k b p ≡ true
unfolding is_lowest
lowest_true k b p e = eq-eqb (lowest_block k (place (sides k.extents) (embed k b p))) b e

module _ (k : Cutting) (good : good_cut k ≡ true) where
  abbrev pub all_blocks : List ℕ
  all_blocks = consecutive 0 (blocks k)

  -- block b's own face cells, and where they lie in the volume
  abbrev own_of : ℕ → List ℕ
  own_of b = keep (own_cell k b) (of_order (block_extents k b) 2)

  abbrev pub cells_of : ℕ → List ℕ
  cells_of b = map (embed k b) (own_of b)

  abbrev pub at : ℕ → Triple
  at t = place (sides k.extents) t

  listed : {b : ℕ} → Memᴰ b all_blocks → b < blocks k
  listed m = omega (arith, consecutive_out 0 (blocks k) m)

  -- one of them
  record Own (b p : ℕ) : Type 0 where
    within : p < cells (block_extents k b)
    level : order (block_extents k b) p ≡ 2
    own : own_cell k b p ≡ true

  own_out : (b : ℕ) {p : ℕ} → Memᴰ p (own_of b) → Own b p
  own_out b m =
      let r = keep_out (own_cell k b) (of_order (block_extents k b) 2) m in
      let o = of_order_out (block_extents k b) 2 r.0 in
      record { within = o.0; level = o.1; own = r.1 }

  module _ (b : ℕ) (hb : b < blocks k) (p : ℕ) (hp : p < cells (block_extents k b)) (o : own_cell k b p ≡ true) where
    pub lowest_own : lowest_block k (at (embed k b p)) ≡ b
    unfolding is_lowest
    lowest_own = eqb-true (lowest_block k (at (embed k b p))) b (sym (own_lowest k good b hb p hp) ∙ o)

  -- a cell of a block stands there at `local`
  pub embed_local : (b : ℕ) → b < blocks k → (p : ℕ) → p < cells (block_extents k b) → local k b (at (embed k b p)) ≡ p
  embed_local b hb p hp =
      let h = cell_in_block k good b hb (at (embed k b p)) (block_has_cell k good b hb (embed k b p) (record { p = p; within = hp; is = refl })) in
      embed_same k good b hb (local k b (at (embed k b p))) p h.0 hp (h.1 ∙ index_place (sides k.extents) (embed k b p))

  pub own_cells : Reordered (spread cells_of all_blocks) (of_order k.extents 2)
  own_cells =
      re_unique (spread cells_of all_blocks) (of_order k.extents 2)
      (unique_spread cells_of (λ t. lowest_block k (at t)) all_blocks owner one_block (unique_ascends 0 all_blocks (ascends_consecutive 0 (blocks k))))
      (unique_ascends 0 (of_order k.extents 2) (order_ascends k.extents 2)) there back
    where
      owner : (b z : ℕ) → Memᴰ b all_blocks → Memᴰ z (cells_of b) → lowest_block k (at z) ≡ b
      owner b z m n =
          let r = Memᴰ.of_map (embed k b) (own_of b) n in
          let o = own_out b r.1 in
          ap (λ (t : ℕ). lowest_block k (at t)) (sym r.2) ∙ lowest_own b (listed m) r.0 o.within o.own

      one_block : (b : ℕ) → Memᴰ b all_blocks → NoRepeats (cells_of b)
      one_block b m =
          unique_map (embed k b) (own_of b) (λ p q x y e. embed_same k good b (listed m) p q (own_out b x).within (own_out b y).within e)
          (unique_ascends 0 (own_of b) (ascends_keep (own_cell k b) 0 (of_order (block_extents k b) 2) (order_ascends (block_extents k b) 2)))

      there : (z : ℕ) → Memᴰ z (spread cells_of all_blocks) → Memᴰ z (of_order k.extents 2)
      there z m =
          let s = spread_out cells_of all_blocks m in
          let hb = listed s.1 in
          let r = Memᴰ.of_map (embed k s.0) (own_of s.0) s.2 in
          let o = own_out s.0 r.1 in
          Memᴰ.cast (sym r.2)
          (of_order_at k.extents 2 (embed_inside k good s.0 hb r.0 o.within) (embed_order k good s.0 hb r.0 o.within ∙ o.level))

      in_spread : (f : ℕ → List ℕ) (bs : List ℕ) {b z : ℕ} → Memᴰ b bs → Memᴰ z (f b) → Memᴰ z (spread f bs)
      in_spread f [] m n = absurd (Memᴰ.not-nil m)
      in_spread f (c ∷ bs) {b} {z} m n =
          ⊎_elim (λ e. Memᴰ.append_left (spread f bs) (subst (λ (x : ℕ). Memᴰ z (f x)) e n)) (λ i. Memᴰ.append_right (f c) (in_spread f bs i n)) (Memᴰ.cases_cons m)

      back : (z : ℕ) → Memᴰ z (of_order k.extents 2) → Memᴰ z (spread cells_of all_blocks)
      back z m =
          let o = of_order_out k.extents 2 m in
          let w = lowest_has_cell k good z o.0 in
          let b : ℕ = lowest_block k (at z) in
          let p : ℕ = w.1.p in
          let own : own_cell k b p ≡ true =
          own_lowest k good b w.0 p w.1.within ∙ lowest_true k b p (ap (λ (t : ℕ). lowest_block k (at t)) w.1.is) in
          let level : order (block_extents k b) p ≡ 2 = sym (embed_order k good b w.0 p w.1.within) ∙ ap (order k.extents) w.1.is ∙ o.1 in
          in_spread cells_of all_blocks (consecutive_in 0 (blocks k) (omega arith) (omega (arith, w.0)))
          (Memᴰ.cast (sym w.1.is) (Memᴰ.map (embed k b) (keep_in (own_cell k b) (of_order (block_extents k b) 2) (of_order_at (block_extents k b) 2 w.1.within level) own)))

  -- ---- what is taken there

  module _ (g : ℕ → Brought) where
    module _ (b : ℕ) (hb : b < blocks k) where
      here : (p : ℕ) → p < cells (block_extents k b) → own_cell k b p ≡ true → cell_taken (block_extents k b) (starts k b) (g b) p ≡ taken_at k g (embed k b p)
      unfolding taken_at
      here p hp o =
          sym (ap (λ (c : ℕ). cell_taken (block_extents k c) (starts k c) (g c) (local k c (at (embed k b p)))) (lowest_own b hb p hp o)
          ∙ ap (cell_taken (block_extents k b) (starts k b) (g b)) (embed_local b hb p hp))

      away : (p : ℕ) → own_cell k b p ≡ false → cell_taken (block_extents k b) (starts k b) (g b) p ≡ []
      unfolding own_cell cell_taken own_face
      away p o = rw o

      taken_list : (ps : List ℕ) → ((p : ℕ) → Memᴰ p ps → p < cells (block_extents k b)) → gathered (cell_taken (block_extents k b) (starts k b) (g b)) ps ≡ gathered (taken_at k g) (map (embed k b) (keep (own_cell k b) ps))
      unfolding gathered
      taken_list [] h = refl
      taken_list (p ∷ ps) h =
          by_test (own_cell k b p)
          (λ t. ap (λ (l : List Taken). l ++ gathered (cell_taken (block_extents k b) (starts k b) (g b)) ps) (here p (h p (Memᴰ.head refl)) t)
          ∙ ap (λ (l : List Taken). taken_at k g (embed k b p) ++ l) (taken_list ps (λ q m. h q (Memᴰ.tail m)))
          ∙ sym (rw t refl))
          (λ t. ap (λ (l : List Taken). l ++ gathered (cell_taken (block_extents k b) (starts k b) (g b)) ps) (away p t)
          ∙ taken_list ps (λ q m. h q (Memᴰ.tail m))
          ∙ sym (rw t refl))

      taken_block : taken_by k g b ≡ gathered (taken_at k g) (cells_of b)
      unfolding taken_by block_taken
      taken_block = taken_list (of_order (block_extents k b) 2) (λ p m. (of_order_out (block_extents k b) 2 m).0)

    pub taken_blocks : (bs : List ℕ) → ((b : ℕ) → Memᴰ b bs → b < blocks k) → gathered (taken_by k g) bs ≡ gathered (taken_at k g) (spread cells_of bs)
    unfolding gathered
    taken_blocks [] h = refl
    taken_blocks (b ∷ bs) h =
        ap (λ (l : List Taken). l ++ gathered (taken_by k g) bs) (taken_block b (h b (Memᴰ.head refl)))
        ∙ ap (λ (l : List Taken). gathered (taken_at k g) (cells_of b) ++ l) (taken_blocks bs (λ c m. h c (Memᴰ.tail m)))
        ∙ sym (gathered_append (taken_at k g) (cells_of b) (spread cells_of bs))
