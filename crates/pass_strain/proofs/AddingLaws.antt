-- What the definition adds for a block's readings is what is taken at its own face cells.
-- Assumes nothing.
use mathlib.Core.Path.{◌≡◌, refl, sym, ap, ◌∙◌}
use mathlib.Core.Bool.{true, false}
use mathlib.Core.List.{List, [], ◌∷◌, ◌++◌, Memᴰ}
use Prim.Native.Nat.{ℕ, ◌<◌}
use lib.ListN.{get_or}
use lib.Ieee.{Float}
use Rattle.lists.specs.Lists.{keep}
use Rattle.lists.proofs.Cases.{by_test}
use Rattle.cells.specs.Grid.{cells}
use Rattle.labels.specs.Components.{of_order}
use Rattle.labels.proofs.ComponentLaws.{of_order_out}
use Rattle.cutting.specs.Cutting.{Cutting, blocks, good_cut, block_extents}
use Rattle.joiner.specs.Declines.{final_of}
use Rattle.joiner.specs.Job.{Face, Tables, from_of, node}
use Rattle.pass_point.specs.FoundPoints.{final_in}
use Rattle.totals.specs.Totals.{Taken}
use Rattle.strain_calls.specs.Adding.{gathered, is_lowest, counted_cells, cell_adds}
use Rattle.lowest.specs.Lowest.{starts, own_cell}
use Rattle.lowest.proofs.LowestLaws.{own_lowest}
use Rattle.pass_strain.specs.BlockReadings.{Brought, brought, face_at, own_face, cell_taken, block_taken}

-- the final number of a block's number n, by the tables or by what is lent of them
pub final_is : (t : Tables) (b n : ℕ) → final_in (t.numbers Face) (from_of t Face b) n ≡ final_of t Face b n
unfolding final_of final_in node
final_is t b n = refl

module _ (k : Cutting) (good : good_cut k ≡ true) (b : ℕ) (hb : b < blocks k) (t : Tables) (m : List ℕ) (values : List Float) (kinds : List ℕ) where
  abbrev g : Brought
  g = brought m (t.numbers Face) (from_of t Face b) values kinds

  -- a cell that counts with the block
  here : (p : ℕ) → own_cell k b p ≡ true → cell_taken (block_extents k b) (starts k b) g p ≡ cell_adds k t b m values kinds p
  unfolding own_cell cell_taken own_face face_at cell_adds
  here p o = rw (o, final_is t b (get_or m p 0)) refl

  -- one that does not
  away : (p : ℕ) → own_cell k b p ≡ false → cell_taken (block_extents k b) (starts k b) g p ≡ []
  unfolding own_cell cell_taken own_face
  away p o = rw o refl

  adds_among : (ps : List ℕ) → ((p : ℕ) → Memᴰ p ps → p < cells (block_extents k b))
      → gathered (cell_adds k t b m values kinds) (keep (is_lowest k b) ps) ≡ gathered (cell_taken (block_extents k b) (starts k b) g) ps
  unfolding gathered
  adds_among [] h = refl
  adds_among (p ∷ ps) h =
      let e : own_cell k b p ≡ is_lowest k b p = own_lowest k good b hb p (h p (Memᴰ.head refl)) in
      let i = adds_among ps (λ q n. h q (Memᴰ.tail n)) in
      by_test (is_lowest k b p)
      (λ u. rw u (ap (λ (l : List Taken). cell_adds k t b m values kinds p ++ l) i ∙ ap (λ (l : List Taken). l ++ gathered (cell_taken (block_extents k b) (starts k b) g) ps) (sym (here p (e ∙ u)))))
      (λ u. rw u (i ∙ ap (λ (l : List Taken). l ++ gathered (cell_taken (block_extents k b) (starts k b) g) ps) (sym (away p (e ∙ u)))))

  -- What the readings of block b add by the definition, cell by cell that the block is the lowest to have, is what is taken at or after its starts.
  pub block_adds_lem : gathered (cell_adds k t b m values kinds) (counted_cells k b) ≡ block_taken (block_extents k b) (starts k b) (brought m (t.numbers Face) (from_of t Face b) values kinds)
  unfolding counted_cells block_taken
  block_adds_lem = adds_among (of_order (block_extents k b) 2) (λ p n. (of_order_out (block_extents k b) 2 n).0)
