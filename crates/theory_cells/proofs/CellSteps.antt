-- One call about a list of cells against the day book.
-- Assumes nothing.
use mathlib.Core.Path.{◌≡◌, refl, sym, ap, ap₂, ◌∙◌, subst}
use mathlib.Core.Bool.{true, false, not, cond}
use mathlib.Core.Logic.{◌≢◌}
use mathlib.Core.List.{List}
use Prim.Native.Nat.{ℕ, ◌≤◌, ◌<◌}
use native.Mathlib.Omega.{arith}
use lib.Dec.{eqb}
use lib.ListN.{get_or, length}
use borrow.Author.Tests.{eqb-true, eq-eqb, not-false}
use Rattle.lists.proofs.Cases.{by_test, and_both, and_first, and_second}
use Rattle.lists.proofs.Lists.{tabulate_same, consecutive_out}
use Rattle.lists.proofs.Tests.{all_in, implies}
use Rattle.refusals.specs.Refusals.{number, stands_in}
use Rattle.cells.specs.Extents.{off_size}
use Rattle.labels.specs.Number.{labels}
use Rattle.cutting.specs.Cutting.{Cutting, blocks, good_cut, block_extents}
use Rattle.joiner.specs.Book.{Book, uncut}
use Rattle.joiner.specs.Declines.{map_stands, tallies_fit}
use Rattle.joiner.specs.Job.{Closed, Stage, State, Told, lengths_fit, same_stage, stage_number}
use Rattle.joiner.specs.Stages.{codes_of, has_cell}
use Rattle.joiner.specs.Outcomes.{looked_up}
use Rattle.joiner.specs.Statement.{Labelling}
use Rattle.joiner.proofs.Final.{uncut_is}
use Rattle.joiner.proofs.Inv.{Inv, and_so, fit, own_of, tallies_fit_lem}
use Rattle.joiner.proofs.Ladder.{Alongside, Bookish, EarlyOnly, given_agree, given_early, given_early_only, given_stray}
use Rattle.joiner.proofs.Readings.{cell_read}
use Rattle.joiner.proofs.Simulation.{Sim, finals_at, maps_at, own_looked}
use Rattle.joiner.proofs.Sizes.{lent_fit}
use Rattle.joiner.specs.Calls.{look}
use Rattle.joiner.proofs.Codes.{lowest_there}
use Rattle.cell_calls.specs.Cells.{CellLists, cell_count, cell_at, all_in_grid, read_from, is_needed}
use Rattle.cell_calls.specs.Calls.{CellCall, request, fill, CellAnswer, cell_answer, cells_of, tray_of, cells_placed, lists_fit}
use Rattle.cell_calls.specs.Declines.{lent_for, cell_stands, cells_stand, cell_declines, cell_refusal}
use Rattle.cell_calls.specs.Outcomes.{listed_in, filled_by, filled_from, cell_done, CellStep}
use Rattle.cell_calls.proofs.NeededLaws.{list_inside, needed_block}
use Rattle.cell_calls.proofs.AnswerLaws.{step_told, step_done, step_passed, tray_length}
use Rattle.theory_cells.specs.Book.{cell_book_declines, cell_book_refusal, brings_map, cell_accepts, cell_book_answer, number_at}
use Rattle.theory_cells.specs.Statement.{CellBrings, CellAgrees}

module _ (o : Told) (own : ℕ → List ℕ) (ext : off_size 1024 o.cutting.extents ≡ false) (good : good_cut o.cutting ≡ true)
    (lab : (b : ℕ) → b < blocks o.cutting → Labelling (block_extents o.cutting b) (own b)) (B : Book) (s : State) (S : Sim o own ext good lab B s) where
  abbrev k : Cutting
  k = o.cutting

  abbrev I : Inv o own B s
  I = S.inv

  -- what the service and the book were told is the same
  alike : s.job.told ≡ B.told
  alike = I.told ∙ sym I.btold

  lent_fits : (c : CellCall) → lengths_fit (lent_for o s.tables c) ≡ true
  unfolding lengths_fit
  lent_fits (request l t) = refl
  lent_fits (fill l b m t) = lent_fit o s.tables I.sizes (look b m (cell_at l 0))

  -- ---- 3, 4 and 6

  module _ (c : CellCall) where
    -- the stage, where 3 is not given
    closed_of : not (same_stage s.job.stage Closed) ≡ false → stage_number B.stage ≡ stage_number Closed
    unfolding same_stage
    closed_of t = ap stage_number (sym I.stage) ∙ eqb-true (stage_number s.job.stage) (stage_number Closed) (not-false _ t)

    alongside : Alongside (stands_in (cell_declines s c)) (stands_in (cell_book_declines B c))
    unfolding cell_declines cell_book_declines stands_in number
    alongside =
        record {
          f_size = ap (λ (z : Told). off_size 1024 z.cutting.extents) I.told ∙ ext;
          f_cut = ap not (ap (λ (z : Told). good_cut z.cutting) I.told ∙ good);
          f_blank = refl;
          f_record = refl;
          stage = ap (λ (x : Stage). not (same_stage x Closed)) I.stage;
          early = λ t. (
            ap (λ (z : Told). not (cells_placed z.cutting c)) alike,
            refl,
            ap not (and_so o own ext good lab B s I (lists_fit s.job.told.cutting c) (lengths_fit (lent_for s.job.told s.tables c)) (ap (λ (z : Told). lengths_fit (lent_for z s.tables c)) I.told ∙ lent_fits c) ∙ ap (λ (z : Told). lists_fit z.cutting c) alike),
          );
        }

    bookish : Bookish (stands_in (cell_book_declines B c))
    unfolding cell_book_declines stands_in number
    bookish = record { g_size = refl; g_cut = refl; g_blank = refl; g_stray = refl; g_record = refl }

    earlier : EarlyOnly (stands_in (cell_book_declines B c)) (stands_in (cell_book_declines B c))
    unfolding cell_book_declines stands_in number
    earlier =
        record { h_size = refl; h_cut = refl; h_stage = refl; h_place = refl; h_done = refl; h_tray = refl; h_blank = refl; h_stray = refl; h_layers = refl; h_full = refl; h_record = refl; h_reading = refl }

    book_stray : cell_book_refusal B c ≢ 8
    unfolding cell_book_refusal
    book_stray = given_stray (stands_in (cell_book_declines B c)) bookish

    early_agrees : cell_book_refusal B c ≢ 0 → cell_refusal s c ≡ cell_book_refusal B c
    unfolding cell_refusal cell_book_refusal
    early_agrees = given_early (stands_in (cell_declines s c)) (stands_in (cell_book_declines B c)) alongside (stands_in (cell_book_declines B c)) earlier

    early_only : 0 < cell_refusal s c → cell_refusal s c ≤ 6 → cell_refusal s c ≡ cell_book_refusal B c
    unfolding cell_refusal cell_book_refusal
    early_only = given_early_only (stands_in (cell_declines s c)) (stands_in (cell_book_declines B c)) alongside (stands_in (cell_book_declines B c)) earlier

  -- ---- a needed block and its cells

  -- cell i of the list is one of block b, which it is read from
  module _ (l : CellLists) (b : ℕ) (inside : all_in_grid k.extents l ≡ true) (i : ℕ) (h : i < cell_count l) (e : read_from k l b i ≡ true) where
    from_there : (b < blocks k) × (has_cell k b (cell_at l i) ≡ true)
    unfolding read_from
    from_there =
        subst (λ (x : ℕ). (x < blocks k) × (has_cell k x (cell_at l i) ≡ true)) (eqb-true _ _ e)
        (lowest_there k good (cell_at l i) (list_inside k.extents l inside i h))

  grid_of : (l : CellLists) (b : ℕ) (m t : List ℕ) → cells_placed k (fill l b m t) ≡ true → all_in_grid k.extents l ≡ true
  grid_of l b m t p = and_first (all_in_grid k.extents l) (is_needed k l b) p

  block_of : (l : CellLists) (b : ℕ) (m t : List ℕ) → cells_placed k (fill l b m t) ≡ true → b < blocks k
  block_of l b m t p = needed_block k l b good (grid_of l b m t p) (and_second (all_in_grid k.extents l) (is_needed k l b) p)

  -- ---- maps, and 8

  -- a call with its block's own map brings what the book takes for it, and back
  brings_map_lem : stage_number B.stage ≡ stage_number Closed → (c : CellCall) → cells_placed k c ≡ true → CellBrings own c → brings_map B c ≡ true
  brings_map_lem h (request l t) p e = refl
  brings_map_lem h (fill l b m t) p e = maps_at o own ext good lab B s S b (block_of l b m t p) (omega arith) m e

  brings_own_lem : stage_number B.stage ≡ stage_number Closed → (c : CellCall) → cells_placed k c ≡ true → brings_map B c ≡ true → CellBrings own c
  brings_own_lem h (request l t) p e = tt
  brings_own_lem h (fill l b m t) p e = own_of o own ext good lab B s I (omega arith) b (block_of l b m t p) m e

  all_stands : stage_number B.stage ≡ stage_number Closed → (c : CellCall) → cells_placed k c ≡ true → CellBrings own c → cells_stand s c ≡ true
  unfolding cell_stands
  all_stands h (request l t) p e = refl
  all_stands h (fill l b m t) p e =
      and_both (map_stands s (block_extents s.job.told.cutting b) b m) _
      (fit o own ext good lab B s I b m (block_of l b m t p) (omega arith) (brings_map_lem h (fill l b m t) p e))
      (all_in (cell_stands s l b m) _
      (λ i q.
      implies (read_from s.job.told.cutting l b i) _
      (λ r.
      let w = from_there l b (grid_of l b m t p) i (omega (arith, consecutive_out 0 (cell_count l) q)) (ap (λ (z : Told). read_from z.cutting l b i) (sym I.told) ∙ r) in
      own_looked o own ext good lab B s S h b w.0 m e (cell_at l i) w.1)))

  -- ---- the refusal of a call that brings its block's map

  module _ (c : CellCall) where
    placed_of : not (cells_placed s.job.told.cutting c) ≡ false → cells_placed k c ≡ true
    placed_of t = ap (λ (z : Told). cells_placed z.cutting c) (sym I.told) ∙ not-false _ t

    refused_by : (stage_number B.stage ≡ stage_number Closed → cells_placed k c ≡ true → CellBrings own c) → cell_refusal s c ≡ cell_book_refusal B c
    unfolding cell_refusal cell_book_refusal cell_declines cell_book_declines stands_in number
    refused_by e =
        given_agree (stands_in (cell_declines s c)) (stands_in (cell_book_declines B c)) (alongside c) (bookish c)
        (λ a b.
        let h : stage_number B.stage ≡ stage_number Closed = closed_of c a in
        let p : cells_placed k c ≡ true = placed_of b in
        (ap not (and_both (tallies_fit s.job) (cells_stand s c) (tallies_fit_lem o own ext good lab B s I) (all_stands h c p (e h p))), refl, refl, refl))

    brought_agrees : CellBrings own c → cell_refusal s c ≡ cell_book_refusal B c
    brought_agrees e = refused_by (λ h p. e)

    map-agrees : brings_map B c ≡ true → cell_refusal s c ≡ cell_book_refusal B c
    map-agrees e = refused_by (λ h p. brings_own_lem h c p e)

  -- ---- the answer

  -- the answers that an accepted filling leaves, over the numbers of any map that is the uncut one
  module _ (h : stage_number B.stage ≡ stage_number Closed) (l : CellLists) (b : ℕ) (m t : List ℕ) (p : cells_placed k (fill l b m t) ≡ true) (long : length t ≡ cell_count l) (e : m ≡ own b) where
    cell_uncut : (i : ℕ) → i < cell_count l → read_from k l b i ≡ true → looked_up s b m (cell_at l i) ≡ number_at B.told.cutting.extents (uncut B) l i
    unfolding number_at
    cell_uncut i g r =
        let w = from_there l b (grid_of l b m t p) i g r in
        ap (λ (x : List ℕ). looked_up s b x (cell_at l i)) e ∙ cell_read o own good lab B s I (omega arith) (finals_at o own ext good lab B s S h) b (cell_at l i) w.0 w.1

    filled_uncut : filled_from s l b m t ≡ filled_by k l b (number_at B.told.cutting.extents (uncut B) l) t
    unfolding filled_from filled_by
    filled_uncut =
        tabulate_same (length t) _ _
        (λ i g.
        ap (λ (z : Told). cond (read_from z.cutting l b i) (looked_up s b m (cell_at l i)) (get_or t i 0)) I.told
        ∙ by_test (read_from k l b i) (λ r. rw r (cell_uncut i (omega arith) r)) (λ r. rw r))

  module _ (c : CellCall) (a : CellAnswer) (P : CellStep s c a) (fair : a.refusal ≡ 0 → CellBrings own c) where
    told : a.refusal ≡ cell_refusal s c
    told = step_told s c a P

    -- the stage and the places of an accepted call
    closed_at : a.refusal ≡ 0 → stage_number B.stage ≡ stage_number Closed
    closed_at z = closed_of c (ap not (step_passed s c a P z).stage)

    placed_at : a.refusal ≡ 0 → cells_placed k c ≡ true
    placed_at z = placed_of c (ap not (step_passed s c a P z).placed)

    -- what is accepted is what the book accepts
    taken : a.refusal ≡ 0 → cell_accepts B c ≡ true
    unfolding cell_accepts
    taken z =
        let e = fair z in
        and_both (eqb (cell_book_refusal B c) 0) (brings_map B c) (eq-eqb _ _ (sym (brought_agrees c e) ∙ sym told ∙ z)) (brings_map_lem (closed_at z) c (placed_at z) e)

    taken_back : cell_accepts B c ≡ true → a.refusal ≡ 0
    unfolding cell_accepts
    taken_back t = told ∙ map-agrees c (and_second (eqb (cell_book_refusal B c) 0) (brings_map B c) t) ∙ eqb-true _ _ (and_first (eqb (cell_book_refusal B c) 0) (brings_map B c) t)

    answered : a.refusal ≡ 0 → a ≡ cell_book_answer B c
    answered z = step_done s c a P z ∙ done_is c (closed_at z) (placed_at z) (tray_length s c (step_passed s c a P z)) (fair z)
      where
        done_is : (d : CellCall) → stage_number B.stage ≡ stage_number Closed → cells_placed k d ≡ true → length (tray_of d) ≡ cell_count (cells_of d) → CellBrings own d → cell_done s d ≡ cell_book_answer B d
        done_is (request l t) h p w e = ap (λ (z : Told). listed_in z.cutting l t) alike
        done_is (fill l b m t) h p w e =
            ap (cell_answer 0 0)
            (filled_uncut h l b m t p w e
            ∙ ap (λ (z : Told). filled_by z.cutting l b (number_at B.told.cutting.extents (uncut B) l) t) (sym I.btold))

    -- A call about a list of cells is what the book says.
    pub one_cells : CellAgrees own B c a
    one_cells =
        record {
          no_stray = λ e z. book_stray c (sym (told ∙ brought_agrees c e) ∙ z);
          brought = λ e. told ∙ brought_agrees c e;
          refused = λ e. told ∙ map-agrees c e;
          early = λ n. told ∙ early_agrees c n;
          early_only = λ h l. told ∙ early_only c (omega (arith, h, told)) (omega (arith, l, told));
          judged = (taken, taken_back);
          answered = answered;
        }

  -- An accepted filling with its block's map leaves the uncut numbers of the cells that are read from the block.
  pub filled_by_lem : (l : CellLists) (b : ℕ) (m t : List ℕ) (a : CellAnswer) → CellStep s (fill l b m t) a → a.refusal ≡ 0 → m ≡ own b
      → (length t ≡ cell_count l) × (a.tray ≡ filled_by k l b (number_at k.extents (labels k.extents (codes_of k own)) l) t)
  filled_by_lem l b m t a P z e =
      let c = fill l b m t in
      let w = tray_length s c (step_passed s c a P z) in
      let h = closed_at c a P (λ _. e) z in
      let same : uncut B ≡ labels k.extents (codes_of k own) = uncut_is o own good lab B s I (omega arith) in (
        w,
        ap (λ (x : CellAnswer). x.tray) (step_done s c a P z) ∙ filled_uncut h l b m t (placed_at c a P (λ _. e) z) w e
            ∙ ap₂ (λ (z : Told) (x : List ℕ). filled_by k l b (number_at z.cutting.extents x l) t) I.btold same,
      )
