-- What holds of lists of calls with those about lists of cells, whole.
-- Assumes nothing.
use mathlib.Core.Path.{◌≡◌, refl, sym, ap, ◌∙◌, subst}
use mathlib.Core.Bool.{true, false, cond, true≢false}
use mathlib.Core.Logic.{◌⊎◌, inl, inr}
use mathlib.Core.List.{List, [], ◌∷◌, Memᴰ}
use Prim.Native.Nat.{ℕ, ◌≤◌, ◌<◌}
use native.Mathlib.Omega.{arith}
use lib.Dec.{eqb, ltb}
use lib.ListN.{get_or, length, take}
use lib.Seq.{ext_get_or, get_or-take, length-take-le}
use borrow.Author.Tests.{eq-eqb, ne_eqb, ltb-true, ltb-false}
use Rattle.lists.specs.Lists.{is_in, tabulate}
use Rattle.lists.proofs.Cases.{by_test}
use Rattle.lists.proofs.Lists.{get_or_tabulate, length-tabulate}
use Rattle.lists.proofs.Tests.{is_in_lem, in_is}
use Rattle.cells.specs.Extents.{off_size}
use Rattle.labels.specs.Number.{labels}
use Rattle.cutting.specs.Cutting.{Cutting, blocks, good_cut, block_extents}
use Rattle.joiner.specs.Book.{Book, begun, turned}
use Rattle.joiner.specs.Job.{State, Told}
use Rattle.joiner.specs.Stages.{codes_of, lowest_block}
use Rattle.joiner.specs.Statement.{Fair, Labelling, Measured}
use Rattle.joiner.proofs.Sheets.{codes_back}
use Rattle.joiner.proofs.Simulation.{Sim, one_call}
use Rattle.joiner.proofs.Statement3.{begun_sim, opened_passed, statement3}
use Rattle.extended.specs.Extended.{LongRun, base, added, base_calls}
use Rattle.extended.proofs.ExtendedLaws.{base_run}
use Rattle.cell_calls.specs.Cells.{CellLists, cell_count, cell_at, read_from}
use Rattle.cell_calls.specs.Calls.{fill, CellAnswer}
use Rattle.cell_calls.specs.Outcomes.{filled_by}
use Rattle.cell_calls.proofs.AnswerLaws.{step_refused}
use Rattle.theory_cells.specs.Book.{number_at}
use Rattle.theory_cells.specs.Statement.{CellEvent, earlier, about_cells, earlier_calls, CellRun, CellFair, CellMeasured, Supposed, CellStatement, Needs, Handed, ListAnswered, AnswersUncut}
use Rattle.theory_cells.proofs.CellSteps.{one_cells, filled_by_lem}

-- ---- statement 3 and the other request's theorem, cited

-- Leaving out the calls about lists of cells, a list is one of the other request's, and then one of statement 3.
pub earlier_run : {C A W : Type 0} {Step : State → W → C → A → W → Type 0} {s : State} {w : W} {es : List (CellEvent C A W)} → CellRun Step s w es → LongRun Step s w (earlier_calls es)
unfolding earlier_calls
earlier_run CellRun.none = LongRun.none
earlier_run (CellRun.next S R) = LongRun.next S (earlier_run R)
earlier_run (CellRun.next_added S R) = LongRun.next_added S (earlier_run R)
earlier_run (CellRun.next_cells S R) = earlier_run R

pub base_measured : {C A W : Type 0} {Step : State → W → C → A → W → Type 0} {o : Told} {own : ℕ → List ℕ} {es : List (CellEvent C A W)}
    → Supposed Step o own es → Measured own (begun o) (base_calls (earlier_calls es))
base_measured {o = o} {own = own} {es = es} P =
    statement3 o P.lent P.begin own (base_calls (earlier_calls es)) P.opened P.labelled (base_run (earlier_run P.run)) P.fair

-- ---- a tray handed on

module _ (o : Told) (own : ℕ → List ℕ) (l : CellLists) where
  abbrev k : Cutting
  k = o.cutting

  -- the number of cell i in the uncut volume
  abbrev final : ℕ → ℕ
  final i = number_at k.extents (labels k.extents (codes_of k own)) l i

  -- after the blocks bs the answers of the cells read from them are final, and the others are as they were
  pub record Filled (bs t u : List ℕ) : Type 0 where
    pub long : length u ≡ length t
    pub whole : (b : ℕ) → Memᴰ b bs → length t ≡ cell_count l
    pub come : (i : ℕ) → i < cell_count l → Memᴰ (lowest_block k (cell_at l i)) bs → get_or u i 0 ≡ final i
    pub others : (i : ℕ) → i < cell_count l → (Memᴰ (lowest_block k (cell_at l i)) bs → ⊥) → get_or u i 0 ≡ get_or t i 0

  nothing : (t : List ℕ) → Filled [] t t
  nothing t = record { long = refl; whole = λ b m. absurd (mathlib.Core.List.Memᴰ.not-nil m); come = λ i h m. absurd (mathlib.Core.List.Memᴰ.not-nil m); others = λ i h n. refl }

  -- one block more, before those
  module _ (b : ℕ) (bs t v u : List ℕ) (w : length t ≡ cell_count l) (e : v ≡ filled_by k l b final t) (F : Filled bs v u) where
    same_long : length v ≡ length t
    unfolding filled_by
    same_long = ap length e ∙ length-tabulate (length t) _

    at_first : (i : ℕ) → i < cell_count l → get_or v i 0 ≡ cond (eqb (lowest_block k (cell_at l i)) b) (final i) (get_or t i 0)
    unfolding filled_by read_from
    at_first i h = ap (λ (x : List ℕ). get_or x i 0) e ∙ get_or_tabulate (length t) _ i (omega arith)

    come_more : (i : ℕ) → i < cell_count l → Memᴰ (lowest_block k (cell_at l i)) (b ∷ bs) → get_or u i 0 ≡ final i
    come_more i h m =
        by_test (is_in bs (lowest_block k (cell_at l i))) (λ t. F.come i h (in_is bs t))
        (λ f.
        let n : Memᴰ (lowest_block k (cell_at l i)) bs → ⊥ = λ q. true≢false (sym (is_in_lem bs q) ∙ f) in
        let q : eqb (lowest_block k (cell_at l i)) b ≡ true = eq-eqb _ _ (only (lowest_block k (cell_at l i)) n (mathlib.Core.List.Memᴰ.cases_cons m)) in
        F.others i h n ∙ at_first i h ∙ rw q)
      where
        only : (x : ℕ) → (Memᴰ x bs → ⊥) → (x ≡ b) ⊎ Memᴰ x bs → x ≡ b
        only x n (inl q) = q
        only x n (inr q) = absurd (n q)

    others_more : (i : ℕ) → i < cell_count l → (Memᴰ (lowest_block k (cell_at l i)) (b ∷ bs) → ⊥) → get_or u i 0 ≡ get_or t i 0
    others_more i h n =
        let q : eqb (lowest_block k (cell_at l i)) b ≡ false = ne_eqb _ _ (λ e. n (mathlib.Core.List.Memᴰ.head e)) in
        F.others i h (λ m. n (mathlib.Core.List.Memᴰ.tail m)) ∙ at_first i h ∙ rw q

    one_more : Filled (b ∷ bs) t u
    one_more = record { long = F.long ∙ same_long; whole = λ c m. w; come = come_more; others = others_more }

module _ {C A W : Type 0} {Step : State → W → C → A → W → Type 0} (o : Told) (own : ℕ → List ℕ) (ext : off_size 1024 o.cutting.extents ≡ false) (good : good_cut o.cutting ≡ true)
    (lab : (b : ℕ) → b < blocks o.cutting → Labelling (block_extents o.cutting b) (own b)) where
  -- ---- the list against the book

  measured : (B : Book) (s : State) (w : W) (es : List (CellEvent C A W)) → Sim o own ext good lab B s → CellRun Step s w es → Fair own (base_calls (earlier_calls es)) → CellFair own es → CellMeasured own B es
  unfolding earlier_calls base_calls
  measured B s w [] S R F G = CellMeasured.none
  measured B s w (earlier (base e) ∷ es) S (CellRun.next P R) F G =
      let K = one_call o own ext good lab B s S e P F.0 in
      CellMeasured.next K.agrees (measured (turned B e.call) e.after w es K.after R F.1 G)
  measured B s w (earlier (added c a v) ∷ es) S (CellRun.next_added P R) F G = CellMeasured.next_added (measured B s v es S R F G)
  measured B s w (about_cells c a ∷ es) S (CellRun.next_cells P R) F G =
      CellMeasured.next_cells (one_cells o own ext good lab B s S c a P G.0) (measured B s w es S R F G.1)

  handed_filled : (l : CellLists) (B : Book) (s : State) (w : W) (es : List (CellEvent C A W)) (t u bs : List ℕ) → Sim o own ext good lab B s → CellRun Step s w es
      → Fair own (base_calls (earlier_calls es)) → CellFair own es → Handed l t es bs u → Filled o own l bs t u
  unfolding earlier_calls base_calls
  handed_filled l B s w [] t u bs S R F G Handed.none = nothing o own l t
  handed_filled l B s w (earlier (base e) ∷ es) t u bs S (CellRun.next P R) F G (Handed.between H) =
      handed_filled l (turned B e.call) e.after w es t u bs (one_call o own ext good lab B s S e P F.0).after R F.1 G H
  handed_filled l B s w (earlier (added c a v) ∷ es) t u bs S (CellRun.next_added P R) F G (Handed.between H) = handed_filled l B s v es t u bs S R F G H
  handed_filled l B s w (about_cells c a ∷ es) t u bs S (CellRun.next_cells P R) F G (Handed.between H) = handed_filled l B s w es t u bs S R F G.1 H
  handed_filled l B s w (about_cells c a ∷ es) t u bs S (CellRun.next_cells P R) F G (Handed.refused {m = m} {b = b} z H) =
      subst (λ (x : List ℕ). Filled o own l bs x u) (ap (λ (x : CellAnswer). x.tray) (step_refused s (fill l b m t) a P z)) (handed_filled l B s w es a.tray u bs S R F G.1 H)
  handed_filled l B s w (about_cells c a ∷ es) t u _ S (CellRun.next_cells P R) F G (Handed.filled {m = m} {bs = bs} {b = b} z H) =
      let x = filled_by_lem o own ext good lab B s S l b m t a P z (G.0 z) in
      one_more o own l b bs t a.tray u x.0 x.1 (handed_filled l B s w es a.tray u bs S R F G.1 H)

-- ---- the answers

module _ (o : Told) (own : ℕ → List ℕ) (l : CellLists) (t u bs : List ℕ) (F : Filled o own l bs t u) (all_come : (b : ℕ) → Needs o.cutting l b → Memᴰ b bs) where
  has_come_lem : (i : ℕ) → i < cell_count l → Memᴰ (lowest_block o.cutting (cell_at l i)) bs
  has_come_lem i h = all_come _ (i, h, refl)

  one_each : 0 < cell_count l → length u ≡ cell_count l
  one_each h = F.long ∙ F.whole _ (has_come_lem 0 h)

  answers_are : (take (cell_count l) u ≡ tabulate (cell_count l) (final o own l)) × (0 < cell_count l → length u ≡ cell_count l)
  answers_are = (entries, one_each)
    where
      room : cell_count l ≤ length u
      room = by_test (ltb 0 (cell_count l)) (λ t. omega (arith, one_each (ltb-true 0 (cell_count l) t))) (λ t. omega (arith, ltb-false 0 (cell_count l) t))

      entries : take (cell_count l) u ≡ tabulate (cell_count l) (final o own l)
      entries =
          let long : length (take (cell_count l) u) ≡ cell_count l = length-take-le (cell_count l) u room in
          ext_get_or 0 (take (cell_count l) u) (tabulate (cell_count l) (final o own l)) (long ∙ sym (length-tabulate (cell_count l) (final o own l)))
          (λ i h.
          let g : i < cell_count l = omega arith in
          get_or-take (cell_count l) u i 0 g ∙ F.come i g (has_come_lem i g) ∙ sym (get_or_tabulate (cell_count l) (final o own l) i g))

-- For every accepted opening and every list of calls after it: the list is what the day book says.
pub cell_statement : CellStatement
cell_statement C A W Step o own es P =
    let p = opened_passed o P.lent P.opened.accepted in
    measured o own p.0 p.1 P.labelled (begun o) P.begin P.beside es (begun_sim o P.lent P.begin own P.opened P.labelled) P.run P.fair P.cells_fair

-- Once each needed block has come, the answers are the uncut numbers in the order sent.
pub list_answered : ListAnswered
list_answered C A W Step o own es l t u bs P H all =
    let p = opened_passed o P.lent P.opened.accepted in
    let F = handed_filled o own p.0 p.1 P.labelled l (begun o) P.begin P.beside es t u bs (begun_sim o P.lent P.begin own P.opened P.labelled) P.run P.fair P.cells_fair H in
    answers_are o own l t u bs F all

-- Where the blocks are those of one volume, they are its numbers, under any cutting.
pub answers_uncut : AnswersUncut
answers_uncut C A W Step o codes own es l t u bs many maps P H all_come =
    (list_answered C A W Step o own es l t u bs P H all_come).0
    ∙ ap (λ (x : List ℕ). tabulate (cell_count l) (number_at o.cutting.extents (labels o.cutting.extents x) l))
    (codes_back o.cutting (opened_passed o P.lent P.opened.accepted).1 codes own many maps)
