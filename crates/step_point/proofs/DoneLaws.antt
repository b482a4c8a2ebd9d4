-- What an accepted point step leaves is what the joiner asks for.
-- Assumes nothing.
use mathlib.Core.Path.{◌≡◌, refl, sym, ap, ◌∙◌, subst}
use mathlib.Core.Bool.{true, false, true≢false, false≢true}
use mathlib.Core.Logic.{◌≢◌}
use mathlib.Core.List.{List, []}
use Prim.Native.Nat.{ℕ, ◌+◌, ◌*◌, ◌/◌, ◌%◌, ◌≤◌, ◌<◌}
use native.Mathlib.Omega.{arith}
use lib.ListN.{length, get_or}
use borrow.Author.Tests.{eqb-true, eq-eqb, ne_eqb, ltb-true}
use Rattle.lists.specs.Lists.{overlay}
use Rattle.lists.proofs.Overlay.{length-overlay}
use Rattle.cells.specs.Box.{triple}
use Rattle.cells.specs.Grid.{cells}
use Rattle.extents.proofs.SizeLaws.{sized_of}
use Rattle.cutting.specs.Cutting.{Cutting, blocks, most_blocks, FewBlocks}
use Rattle.joiner.specs.Job.{Kind, Face, Curve, Point, Closed, State, same_stage, stage_number, key_of, from_of, block_trays, number_trays, found_trays, first_trays, listed_trays, kind_trays, ticks_per_block}
use Rattle.joiner.specs.Job as joiner
use Rattle.joiner.specs.Stages.{point_step}
use Rattle.joiner.specs.Calls.{point, answer}
use Rattle.joiner.specs.Declines.{adds, lent_to, point_cells, refusal}
use Rattle.joiner.specs.Outcomes.{PointDone, CallStep, Ticked, row_final}
use Rattle.joiner.proofs.Passed.{stage_same, Passed, passed, fits_at_lem, tally_fits_lem, points_room}
use Rattle.joiner.proofs.Kept.{found_kept, numbers_kept_lem}
use Rattle.ranking.proofs.HeadLaws.{class_point}
use Rattle.blocks.specs.Blocks.{Tells, AnyExtents}
use Rattle.blocks.specs.declared.Block.{Block}
use Rattle.blocks.specs.declared.Cuts.{Cuts}
use Rattle.pass_enrol.specs.EnrolledRows.{Lies, position_in}
use Rattle.pass_enrol.proofs.KeyLaws.{lies_told}
use Rattle.pass_point.specs.FoundPoints.{found_cells, found_row, Room}
use Rattle.pass_point.proofs.FoundLaws.{found_room, found_keys, found_rows}
use Rattle.kind_numbers.specs.Numbered.{Numbered, AnyCopied}
use Rattle.kind_numbers.proofs.NumberedLaws.{numbered_kind}
use Rattle.std.specs.Prelude.{Result, Ok, Err, IsErr, IsErrAnd}
use Rattle.refusals.specs.declared.Refusal.{Refusal}
use Rattle.refusals.specs.Refusals.{number, number_of}
use Rattle.refusals.proofs.RefusalLaws.{number_positive}
use Rattle.counts.specs.declared.Counts.{Counts}
use Rattle.job.specs.declared.Job.{Job}
use Rattle.job.specs.JobState.{by_kind, job_after, job_by, stage_of, state_by}
use Rattle.stages.specs.Advanced.{Advanced}
use Rattle.judge.specs.Judge.{lengths_of, entry_of}
use Rattle.stages.proofs.AdvancedLaws.{ticked_by, numbered_kept}
use Rattle.judge.proofs.JudgeLaws.{few_of, count_few, step_refused, step_accepted}
use Rattle.judge_point.specs.Tests.{found_of, refusal_of, Plans}
use Rattle.judge_point.proofs.TestLaws.{place_is, found_is, refusal_is}
use Rattle.step_point.specs.Inner.{lent, Ready, with_numbered, Closes}

-- ---- the ways of `close`

module _ (j : Job) (n : ℕ) (keys rows numbers firsts listed : List ℕ) where
  pub close_before : same_stage (stage_of j.stage) Closed ≡ false → Closes j n keys rows numbers numbers firsts firsts listed listed j
  close_before q = record { is = refl; last = λ y. absurd (false≢true (sym q ∙ y)); before = λ _. (refl, refl, refl, refl) }

  pub close_last : same_stage (stage_of j.stage) Closed ≡ true → (total : ℕ) (numbers' firsts' listed' : List ℕ)
      → AnyCopied [] keys rows 6 (λ t κ. Numbered t κ n total numbers numbers' firsts firsts' listed listed')
      → Closes j n keys rows numbers numbers' firsts firsts' listed listed' (with_numbered j total)
  unfolding row_final
  close_last q total numbers' firsts' listed' N = record {
    is = refl;
    last = λ _ t x r. N t Point x (class_point t) r refl (λ _. refl);
    before = λ y. absurd (true≢false (sym q ∙ y));
  }

-- a test of stages
is_closed : (s : joiner.Stage) → s ≡ Closed → same_stage s Closed ≡ true
unfolding same_stage
is_closed s e = eq-eqb _ _ (ap stage_number e)

not_closed : (s : joiner.Stage) → s ≢ Closed → same_stage s Closed ≡ false
unfolding same_stage
not_closed s n = ne_eqb _ _ (λ e. n (stage_same s Closed e))

-- ---- what an accepted step has passed, and leaves

module _ (j : Job) (cuts : Cuts) (ticks table curves keys rows numbers firsts listed : List ℕ) (b : ℕ) (m : List ℕ) where
  abbrev k : Cutting
  k = (job_by j cuts).told.cutting

  abbrev before : State
  before = state_by j cuts (lent ticks table curves keys rows numbers firsts listed)

  module _ (points : ℕ) (R : Ready j cuts (lent ticks table curves keys rows numbers firsts listed) b m points) where
    call_facts : Passed before (point b m)
    call_facts = passed before (point b m) R.none

    there : b < blocks k
    there = ltb-true b (blocks k) call_facts.placed_in

    record Long : Type 0 where
      on_ticks : length ticks ≡ ticks_per_block * blocks k
      on_keys : length keys ≡ j.entries.points
      on_rows : length rows ≡ 6 * j.entries.points
      on_numbers : length numbers ≡ j.entries.points
      on_firsts : length firsts ≡ j.entries.points
      on_listed : length listed ≡ 6 * j.entries.points

    lengths : Long
    unfolding block_trays number_trays kind_trays found_trays first_trays listed_trays
    lengths =
        let at : (i : ℕ) → _ = λ i. fits_at_lem (lent_to before.job.told before.tables (point b m)) i call_facts.lent in
        record { on_ticks = at 0; on_keys = at 3; on_rows = at 4; on_numbers = at 5; on_firsts = at 6; on_listed = at 7 }

    room : j.sofar.points + points ≤ j.entries.points
    room = rw R.counted (points_room before.job.told.entries before.job.sofar (adds before (point b m)) call_facts.room)

    abbrev found : Counts
    found = record { faces = 0; curves = 0; points = points }

    -- what `advance` requires
    pub accept_advance : ((point_step b < length ticks) × FewBlocks cuts.x.now cuts.y.now cuts.z.now)
        × ((j.sofar.faces + 0 ≤ j.entries.faces) × (j.sofar.curves + 0 ≤ j.entries.curves) × (j.sofar.points + points ≤ j.entries.points))
    accept_advance =
        let h : (κ : Kind) → before.job.sofar κ ≤ before.job.told.entries κ = tally_fits_lem before.job call_facts.tallies in
        ((omega (arith, lengths.on_ticks, there), few_of k call_facts.cut), (omega (arith, h Face), omega (arith, h Curve), room))

    module _ (r : Block) (T : AnyExtents cuts (λ k. Tells k b r)) where
      abbrev from : ℕ
      from = (entry_of table b).curve_from

      abbrev tells : Tells k b r
      tells = T k.extents

      from_is : from_of before.tables Curve b ≡ from
      from_is = place_is before b m

      abbrev here : List ℕ
      here = found_cells (r.size) curves from m

      fits_points : (j.sofar.points + length (point_cells k before.tables b m) ≤ length keys) × (6 * (j.sofar.points + length (point_cells k before.tables b m)) ≤ length rows)
      unfolding adds
      fits_points = (omega (arith, room, R.counted, lengths.on_keys), omega (arith, room, R.counted, lengths.on_rows))

      -- .. and `store_points`
      pub accept_store : Lies (triple j.nx j.ny j.nz) r × (length m ≡ cells (r.size)) × (b < most_blocks) × Room (length here) j.sofar.points (length keys) (length rows)
      accept_store = (
        lies_told k b r tells call_facts.cut there (sized_of 1024 k.extents call_facts.on_size),
        eqb-true _ _ call_facts.maps ∙ ap cells (sym tells.size),
        omega (arith, there, count_few k call_facts.cut (blocks k) refl),
        found_room k before.tables b m tells.size refl from_is j.sofar.points (length keys) (length rows) fits_points.0 fits_points.1,
      )

      module _ (next : Job) (ticks' : List ℕ) (A : Advanced j cuts ticks ticks' (point_step b) found next) (keys' : List ℕ)
          (K : keys' ≡ overlay keys j.sofar.points (λ i. key_of (position_in (triple j.nx j.ny j.nz) r (get_or here i 0)) b) (length here)) where
        -- .. and `close`
        pub accept_close : (next.sofar.points ≤ length keys') × (next.sofar.points ≤ length numbers) × (next.sofar.points ≤ length firsts) × (6 * next.sofar.points ≤ length listed)
        accept_close =
            let n : next.sofar.points ≡ j.sofar.points + points = ap (λ (x : Job). x.sofar.points) A.is in
            let l : length keys' ≡ length keys = ap length K ∙ length-overlay keys j.sofar.points _ (length here) in
            (omega (arith, n, room, l, lengths.on_keys), omega (arith, n, room, lengths.on_numbers), omega (arith, n, room, lengths.on_firsts), omega (arith, n, room, lengths.on_listed))

        -- what all of them leave
        module _ (rows' : List ℕ) (L : rows' ≡ overlay rows (6 * j.sofar.points) (λ i. get_or (found_row (r.size) curves from m (get_or here (i / 6) 0)) (i % 6) 0) (6 * length here))
            (numbers' firsts' listed' : List ℕ) where
          abbrev after : Job → State
          after q = state_by q cuts (lent ticks' table curves keys' rows' numbers' firsts' listed')

          more : (κ : Kind) → adds before (point b m) κ ≡ by_kind 0 0 points κ
          unfolding adds
          more Face = refl
          more Curve = refl
          more Point = sym R.counted

          stepped : Ticked before (after next) (point b m) (point_step b)
          stepped = ticked_by j cuts before.tables (after next).tables (point b m) (point_step b) found more next A

          tally_kept : (κ : Kind) → (job_by next cuts).numbered κ ≡ (job_by j cuts).numbered κ
          tally_kept = numbered_kept j cuts ticks ticks' (point_step b) found next A

          done_by : (total : ℕ) → Closes next next.sofar.points keys' rows' numbers numbers' firsts firsts' listed listed' (with_numbered next total) → PointDone before b m (after (with_numbered next total))
          unfolding adds
          done_by total C = record {
            step = record { told = stepped.told; ticks = stepped.ticks; stage = stepped.stage; sofar = stepped.sofar };
            blocks = refl;
            face_links = refl;
            curve_links = refl;
            faces = (found_kept refl, numbers_kept_lem (tally_kept Face) refl);
            curves = (found_kept refl, numbers_kept_lem (tally_kept Curve) refl);
            keys = found_keys k before.tables b m r tells refl from_is j.sofar.points keys keys' K;
            rows = found_rows k before.tables b m r tells refl from_is j.sofar.points rows rows' L;
            last = λ e. numbered_kind before (after (with_numbered next total)) Point next.sofar.points (C.last (is_closed _ e) (after (with_numbered next total)).tables refl refl);
            before = λ e. let p = C.before (not_closed _ e) in record { numbered = p.0 ∙ tally_kept Point; numbers = p.1; firsts = p.2; listed = p.3 };
          }

          pub accept_done : (q : Job) → Closes next next.sofar.points keys' rows' numbers numbers' firsts firsts' listed listed' q → PointDone before b m (after q)
          accept_done q C =
              let n = q.numbered.points in
              subst (λ (x : Job). PointDone before b m (after x)) (sym C.is)
              (done_by n (subst (λ (x : Job). Closes next next.sofar.points keys' rows' numbers numbers' firsts firsts' listed listed' x) C.is C))

  -- ---- the public entry

  module _ (p : Result ℕ Refusal) (P : Plans (refusal_of (job_by j cuts) ticks (lengths_of before.tables) table curves b m) (found_of k table curves b m) p) where
    told_number : number_of p ≡ refusal before (point b m)
    told_number = P.told ∙ sym (refusal_is before b m)

    pub point_refused : (d : Refusal) → p ≡ Err d → (r : Result Job Refusal) → IsErr r × IsErrAnd r (λ x. x ≡ d)
        → CallStep before (point b m) (answer (number_of r) 0 []) (state_by (job_after j r) cuts (lent ticks table curves keys rows numbers firsts listed))
    point_refused d q (Ok x) h = absurd (true≢false (sym h.0))
    point_refused d q (Err x) h =
        step_refused before (point b m) (number x) (ap number h.1 ∙ rw q at told_number) (λ y. absurd (omega (arith, number_positive x, y)))

    module _ (n : ℕ) (q : p ≡ Ok n) where
      accepted_told : 0 ≡ refusal before (point b m)
      accepted_told = rw q at told_number

      pub point_ready : Ready j cuts (lent ticks table curves keys rows numbers firsts listed) b m n
      point_ready = record { none = sym accepted_told; counted = (rw q at P.counted) ∙ found_is before b m }

      pub point_accepted : (t : State) → PointDone before b m t → CallStep before (point b m) (answer 0 0 []) t
      point_accepted t D = step_accepted before (point b m) 0 accepted_told refl (answer 0 0 []) t refl (refl, D)
