-- The numbers of cells and their tests, by what the code has of the block, are those of lookups.
-- Assumes nothing.
use mathlib.Core.Path.{◌≡◌, refl, sym, ap, ◌∙◌}
use mathlib.Core.Bool.{Bool, true}
use mathlib.Core.List.{List, ◌++◌}
use Prim.Native.Nat.{ℕ, ◌+◌, ◌<◌}
use native.Mathlib.Omega.{arith}
use lib.ListN.{get_or, length, set, drop}
use Rattle.lists.specs.Lists.{consecutive, tabulate, all_of}
use Rattle.lists.proofs.Cases.{by_test}
use Rattle.lists.proofs.Lists.{consecutive_out, front_more, front_rest, tabulate_same}
use Rattle.cells.specs.declared.Triple.{Triple}
use Rattle.cells.specs.Extents.{Sized}
use Rattle.cells.specs.Grid.{sides}
use Rattle.cutting.specs.Cutting.{Cutting}
use Rattle.joiner.specs.Job.{State, Tables, from_of, node}
use Rattle.joiner.specs.Stages.{local}
use Rattle.joiner.specs.Declines.{final_of, handed_stands, look_stands, number_stands}
use Rattle.joiner.specs.Outcomes.{cell_number, looked_up}
use Rattle.blocks.specs.Blocks.{has_in, local_in}
use Rattle.job.specs.declared.Job.{Job}
use Rattle.job.specs.JobState.{state_by, job_by}
use Rattle.blocks.specs.declared.Cuts.{Cuts}
use Rattle.reading_cell.specs.declared.LookupTables.{LookupTables}
use Rattle.reading_cell.specs.Inner.{lent_in, HasPlace}
use Rattle.reading_cell.proofs.NumberLaws.{looked_stands, looked_up_lem}
use Rattle.cell_calls.specs.Cells.{CellLists, cell_count, cell_at, in_grid}
use Rattle.cell_calls.specs.Declines.{cell_stands}
use Rattle.cell_calls.specs.Outcomes.{filled_by, filled_from}
use Rattle.cell_calls.proofs.NeededLaws.{grid_inside}
use Rattle.reading_cells.specs.declared.Source.{Source}
use Rattle.reading_cells.specs.Inner.{lent_over, is_own, held_at, stands_at, answer_at, ReadsFrom, Placed}
use Rattle.reading_cells.proofs.LoopLaws.{all_alike}
use Rattle.reading_cells.proofs.OwnLaws.{own_has, own_read}

-- what `number_of` requires
pub own_placed : (e : Triple) (f : Source) (c : Triple) (t : Bool) → Sized 1024 e → in_grid (sides e) c ≡ true → t ≡ is_own f c → t ≡ true → HasPlace e f.block c
own_placed e f c t s g o q = record { sized = s; has = own_has f c t o q; inside = grid_inside (sides e) c g }

-- ---- the tests and the answers of a list

module _ (j : Job) (f : Source) (faces curves m : List ℕ) (l : CellLists) where
  abbrev pub standing : ℕ → Bool
  standing i = stands_at j f faces curves m (cell_at l i)

module _ (j : Job) (f : Source) (faces curves points m : List ℕ) (l : CellLists) (t : List ℕ) where
  abbrev pub filling : ℕ → ℕ
  filling i = answer_at j f faces curves points m (cell_at l i) (get_or t i 0)

  -- the first i answers are given, and the others are as they were
  abbrev pub FilledTo : ℕ → List ℕ → Type 0
  FilledTo i u = u ≡ tabulate i filling ++ drop i t

  pub answers_more : (i : ℕ) (c : Triple) (old r : ℕ) (u : List ℕ) → i < length t → FilledTo i u → c ≡ cell_at l i → old ≡ get_or u i 0
      → r ≡ answer_at j f faces curves points m c old → FilledTo (i + 1) (set u i r)
  answers_more i c old r u h F p q e =
      let kept : old ≡ get_or t i 0 = q ∙ ap (λ (v : List ℕ). get_or v i 0) F ∙ front_rest i t filling i (omega arith) in
      rw (F, e, p, kept) (front_more i t filling h)

-- ---- they are those of lookups

module _ (j : Job) (cuts : Cuts) (w : LookupTables) (t : Tables) (b : ℕ) (m : List ℕ) (f : Source) (l : CellLists) where
  abbrev k : Cutting
  k = (job_by j cuts).told.cutting

  abbrev s : State
  s = state_by j cuts (lent_over t w)

  abbrev faces : List ℕ
  faces = w.faces.now

  abbrev curves : List ℕ
  curves = w.curves.now

  abbrev points : List ℕ
  points = w.points.now

  -- a lookup reads only the tables that it is lent
  stands_framed : (p : ℕ) → look_stands (state_by j cuts (lent_in w)) b m p ≡ look_stands s b m p
  unfolding look_stands handed_stands number_stands node from_of
  stands_framed p = refl

  looked_framed : (c : Triple) → looked_up (state_by j cuts (lent_in w)) b m c ≡ looked_up s b m c
  unfolding looked_up cell_number final_of node from_of
  looked_framed c = refl

  module _ (F : ReadsFrom k w.blocks.now b f) (P : Placed k l b) where
    own_in : (i : ℕ) → is_own f (cell_at l i) ≡ true → has_in f.block (cell_at l i) ≡ true
    own_in i o = own_has f (cell_at l i) true (sym o) refl

    stand_is : (i : ℕ) → i < cell_count l → stands_at j f faces curves m (cell_at l i) ≡ cell_stands s l b m i
    unfolding stands_at cell_stands held_at
    stand_is i h =
        rw (← own_read k w.blocks.now b f F l P i h)
        (by_test (is_own f (cell_at l i))
        (λ o.
        rw o
        (looked_stands j cuts w.ticks.now w.blocks.now faces curves points b m (cell_at l i) f.block F.block (own_in i o) (local_in f.block (cell_at l i)) _ f.entry _ refl F.entry refl refl
        ∙ stands_framed (local k b (cell_at l i))))
        (λ o. rw o))

    pub all_stand_is : all_of (standing j f faces curves m l) (consecutive 0 (cell_count l)) ≡ all_of (cell_stands s l b m) (consecutive 0 (cell_count l))
    all_stand_is = all_alike _ _ (consecutive 0 (cell_count l)) (λ i q. stand_is i (omega (arith, consecutive_out 0 (cell_count l) q)))

    pub answers_are : (u : List ℕ) → length u ≡ cell_count l → tabulate (length u) (filling j f faces curves points m l u) ≡ filled_from s l b m u
    unfolding filled_from filled_by answer_at held_at
    answers_are u e =
        tabulate_same (length u) _ _
        (λ i h.
        rw (← own_read k w.blocks.now b f F l P i (omega arith))
        (by_test (is_own f (cell_at l i))
        (λ o.
        rw o
        (looked_up_lem j cuts w.ticks.now w.blocks.now faces curves points b m (cell_at l i) f.block F.block (own_in i o) (local_in f.block (cell_at l i)) _ f.entry _ refl F.entry refl refl
        ∙ looked_framed (cell_at l i)))
        (λ o. rw o)))
