-- What one accepted call about a list of cells leaves, whatever it found.
-- Assumes nothing.
use mathlib.Core.Path.{◌≡◌, refl, sym, ap, ◌∙◌, subst}
use mathlib.Core.Logic.{◌≢◌}
use mathlib.Core.Bool.{true, cond}
use mathlib.Core.List.{List, Memᴰ}
use Prim.Native.Nat.{ℕ, ◌≤◌, ◌<◌}
use native.Mathlib.Omega.{arith}
use lib.Dec.{eqb, leb}
use lib.ListN.{get_or, length, drop, get_or-append, get_or-eq_default}
use lib.Seq.{drop-append_seam}
use borrow.Author.Tests.{eq-eqb, ne_eqb, leb-true, leb-false}
use Rattle.lists.specs.Lists.{consecutive, laid}
use Rattle.lists.proofs.Cases.{by_test}
use Rattle.lists.proofs.Lists.{ascends_at, ascends_consecutive, ascends_keep, consecutive_in, get_or-in, in_get_or, get_or_tabulate, keep_in, keep_out, length-tabulate}
use Rattle.lists.proofs.Laid.{laid_front, length-laid}
use Rattle.cutting.specs.Cutting.{Cutting, blocks, good_cut}
use Rattle.joiner.specs.Job.{State}
use Rattle.joiner.specs.Stages.{lowest_block}
use Rattle.joiner.specs.Outcomes.{looked_up}
use Rattle.cell_calls.specs.Cells.{CellLists, cell_count, cell_at, all_in_grid, read_from, is_needed, needed_blocks}
use Rattle.cell_calls.specs.Calls.{request, fill, CellAnswer, cell_answer}
use Rattle.cell_calls.specs.Outcomes.{listed_in, filled_by, filled_from}
use Rattle.cell_calls.proofs.NeededLaws.{needed_where, where_needed, needed_block, needed_few}
use Rattle.cell_calls.proofs.AnswerLaws.{step_done, step_passed, tray_length}
use Rattle.theory_cells.specs.Statement.{Needs, NeededOnce, RequestExact, FilledOnly, FillingExact}

-- ---- a request

-- a list laid over the start of a tray
module _ (bs t : List ℕ) (h : length bs ≤ length t) where
  front_entry : (i : ℕ) → i < length bs → get_or (laid 0 bs t) i 0 ≡ get_or bs i 0
  front_entry i l = ap (λ (u : List ℕ). get_or u i 0) (laid_front bs t) ∙ get_or-append bs (drop (length bs) t) 0 i l

  front_behind : drop (length bs) (laid 0 bs t) ≡ drop (length bs) t
  front_behind = ap (drop (length bs)) (laid_front bs t) ∙ drop-append_seam bs (drop (length bs) t)

module _ (k : Cutting) (l : CellLists) (t : List ℕ) (good : good_cut k ≡ true) (inside : all_in_grid k.extents l ≡ true) (long : length t ≡ cell_count l) where
  abbrev bs : List ℕ
  bs = needed_blocks k l

  few : length bs ≤ length t
  few = omega (arith, needed_few k l)

  needed_at : (i : ℕ) → i < length bs → Needs k l (get_or (laid 0 bs t) i 0)
  unfolding needed_blocks
  needed_at i h =
      subst (Needs k l) (sym (front_entry bs t few i h))
      (needed_where k l (get_or bs i 0) (keep_out (is_needed k l) (consecutive 0 (blocks k)) (get_or-in bs i h)).1)

  listed_at : (b : ℕ) → Needs k l b → (i : ℕ) × (i < length bs) × (get_or (laid 0 bs t) i 0 ≡ b)
  unfolding needed_blocks
  listed_at b n =
      let t' = where_needed k l b n.0 n.1 n.2 in
      let m : Memᴰ b bs = keep_in (is_needed k l) (consecutive 0 (blocks k)) (consecutive_in 0 (blocks k) (omega arith) (omega (arith, needed_block k l b good inside t'))) t' in
      let w = in_get_or bs m in
      (w.0, w.1, front_entry bs t few w.0 w.1 ∙ w.2)

  ascending_at : (i j : ℕ) → i < j → j < length bs → get_or (laid 0 bs t) i 0 < get_or (laid 0 bs t) j 0
  unfolding needed_blocks
  ascending_at i j h g =
      let a = ascends_at 0 bs (ascends_keep (is_needed k l) 0 (consecutive 0 (blocks k)) (ascends_consecutive 0 (blocks k))) i j h g in
      omega (arith, a, front_entry bs t few i (omega arith), front_entry bs t few j g)

  needed_once : NeededOnce k l (length bs) t (laid 0 bs t)
  needed_once = record { within = omega (arith, few, length-laid 0 bs t (omega (arith, few))); needed = needed_at; listed = listed_at; ascending = ascending_at; long = length-laid 0 bs t (omega (arith, few)); rest = front_behind bs t few }

listed_is : (k : Cutting) (l : CellLists) (t : List ℕ) → listed_in k l t ≡ cell_answer 0 (length (needed_blocks k l)) (laid 0 (needed_blocks k l) t)
unfolding listed_in
listed_is k l t = refl

-- The list of blocks has each needed block exactly once, ascending.
pub request_exact : RequestExact
request_exact s l t a S z =
    let P = step_passed s (request l t) a S z in
    let k = s.job.told.cutting in
    subst (λ (x : CellAnswer). NeededOnce k l x.many t x.tray) (sym (step_done s (request l t) a S z ∙ listed_is k l t)) (needed_once k l t P.cut P.placed (tray_length s (request l t) P))

-- ---- a filling

module _ (s : State) (l : CellLists) (b : ℕ) (m t : List ℕ) where
  abbrev k : Cutting
  k = s.job.told.cutting

  abbrev u : List ℕ
  u = filled_from s l b m t

  filled_long : length u ≡ length t
  unfolding filled_from filled_by
  filled_long = length-tabulate (length t) _

  filled_at : (i : ℕ) → i < length t → get_or u i 0 ≡ cond (eqb (lowest_block k (cell_at l i)) b) (looked_up s b m (cell_at l i)) (get_or t i 0)
  unfolding filled_from filled_by read_from
  filled_at i h = get_or_tabulate (length t) _ i h

  filled_other : (i : ℕ) → lowest_block k (cell_at l i) ≢ b → get_or u i 0 ≡ get_or t i 0
  filled_other i n =
      by_test (leb (length t) i)
      (λ g. let h = leb-true (length t) i g in get_or-eq_default u 0 {n = i} (omega (arith, filled_long)) ∙ sym (get_or-eq_default t 0 {n = i} h))
      (λ g. filled_at i (leb-false (length t) i g) ∙ rw (ne_eqb (lowest_block k (cell_at l i)) b n))

  filled_only : length t ≡ cell_count l → FilledOnly s l b m t u
  filled_only w =
      record {
        long = filled_long;
        whole = w;
        own = λ i h e. filled_at i (omega arith) ∙ rw (eq-eqb (lowest_block k (cell_at l i)) b e);
        others = filled_other;
      }

-- A filling changes exactly the answers of the cells whose lowest-numbered block it brings.
pub filling_exact : FillingExact
filling_exact s l b m t a S z =
    subst (λ (x : CellAnswer). FilledOnly s l b m t x.tray) (sym (step_done s (fill l b m t) a S z))
    (filled_only s l b m t (tray_length s (fill l b m t) (step_passed s (fill l b m t) a S z)))
