-- The ways of the functions that enrol a block, over plain lists and numbers.
-- Assumes nothing.
use mathlib.Core.Path.{◌≡◌, refl, sym, ap, ◌∙◌}
use mathlib.Core.Bool.{Bool, false, ◌||◌, true≢false}
use mathlib.Core.Logic.{◌⊎◌, inl, inr}
use mathlib.Core.List.{List, []}
use Prim.Native.Nat.{ℕ, suc, ◌+◌, ◌-◌, ◌*◌, ◌/◌, ◌%◌, ◌≤◌, ◌<◌}
use native.Mathlib.Omega.{arith}
use lib.Dec.{ltb}
use lib.ListN.{length}
use borrow.Author.Tests.{ltb-false}
use Rattle.std.specs.Prelude.{Result, Ok, Err, IsErr, IsErrAnd}
use Rattle.refusals.specs.declared.Refusal.{Refusal}
use Rattle.refusals.specs.Refusals.{number, number_of}
use Rattle.refusals.proofs.RefusalLaws.{number_positive}
use Rattle.counts.specs.declared.Counts.{Counts}
use Rattle.blocks.specs.declared.Cuts.{Cuts}
use Rattle.lists.specs.Lists.{overlay}
use Rattle.lists.proofs.Cases.{neither}
use Rattle.lists.proofs.Overlay.{length-overlay, overlay_same}
use Rattle.cells.specs.Box.{triple}
use Rattle.cells.specs.declared.Triple.{Triple}
use Rattle.cells.specs.Grid.{cells}
use Rattle.labels.specs.Components.{largest}
use Rattle.cutting.specs.Cutting.{Cutting, blocks, block_extents, most_blocks, FewBlocks}
use Rattle.joiner.specs.Job.{Kind, Face, Curve, Point, Enrol, Tables, State, block_trays, link_trays, found_trays, numbers_per_block, ticks_per_block}
use Rattle.joiner.specs.Stages.{enrol_step}
use Rattle.joiner.specs.Calls.{enrol, answer, full, overfull}
use Rattle.joiner.specs.Declines.{lent_to, adds, refusal}
use Rattle.joiner.specs.Outcomes.{enrolled_row, EnrolDone, block_entry, CallStep}
use Rattle.joiner.proofs.Passed.{Passed, passed, fits_at_lem}
use Rattle.joiner.proofs.Kept.{found_kept, numbers_kept_lem}
use Rattle.blocks.specs.Blocks.{AnyExtents, size_of, Tells}
use Rattle.blocks.specs.declared.Block.{Block}
use Rattle.pass_enrol.specs.EnrolledRows.{Lies, key_in, FirstKeys}
use Rattle.pass_enrol.proofs.KeyLaws.{lies_told, enrolled_keys, stored_first_keys}
use Rattle.pass_enrol.proofs.RowLaws.{enrolled_faces, enrolled_curves}
use Rattle.job.specs.declared.Job.{Job}
use Rattle.job.specs.JobState.{by_kind, job_after, job_by, state_by}
use Rattle.job.specs.Lent.{no_tables, enrol_lent}
use Rattle.judge.specs.declared.CallName.{CallName}
use Rattle.judge.specs.declared.Lengths.{Lengths}
use Rattle.stages.specs.Advanced.{Advanced}
use Rattle.judge.specs.Judge.{lengths_of}
use Rattle.stages.proofs.AdvancedLaws.{ticked_by, numbered_kept}
use Rattle.judge.proofs.JudgeLaws.{or_none, FirstTests, few_of, count_few, lengths_passed, step_refused, step_accepted}
use Rattle.judge_enrol.specs.Tests.{lent_lengths, refusal_of, Judged}
use Rattle.judge_enrol.proofs.TestLaws.{refusal_is}
use Rattle.step_enrol.specs.Inner.{Ready, block_numbers, KindReady, KindDone}

-- ---- what an accepted call has passed

-- More of a kind has room.
has_room : (entries sofar more : Kind → ℕ) → full entries sofar more ≡ false → (κ : Kind) → sofar κ + more κ ≤ entries κ
unfolding full overfull
has_room entries sofar more e κ = go κ
  where
    over : Kind → Bool
    over κ = ltb (entries κ) (sofar κ + more κ)

    rest : (over Face ≡ false) × ((over Curve || over Point) ≡ false)
    rest = neither (over Face) (over Curve || over Point) e

    go : (κ : Kind) → sofar κ + more κ ≤ entries κ
    go Face = ltb-false _ _ rest.0
    go Curve = ltb-false _ _ (neither (over Curve) (over Point) rest.1).0
    go Point = ltb-false _ _ (neither (over Curve) (over Point) rest.1).1

-- ---- the stores of one kind

-- what `store_rows` requires
pub kind_rows : (v : Triple) (r : Block) (b : ℕ) (m : List ℕ) (j shift from count l n : ℕ) (ks : List ℕ) → KindReady v r b m j shift from count l (length ks) n
    → (ks' : List ℕ) → ks' ≡ overlay ks from (λ i. key_in v r b m j (suc i)) count
    → Lies v r × (length m ≡ cells (size_of r)) × (j ≤ 2) × FirstKeys v r m j ks' from count × ((6 - 2 * j) * (from + count) ≤ n) × ((shift ≡ 0) ⊎ (shift + largest (size_of r) m (suc j) < 4294967296))
kind_rows v r b m j shift from count l n ks R ks' e =
    let s : length ks' ≡ length ks = ap length e ∙ length-overlay ks from (λ i. key_in v r b m j (suc i)) count in
    (R.lies, R.size, R.below, stored_first_keys v r b m j from count ks ks' R.block (omega (arith, R.on_keys)) s e, R.on_rows, R.shifts)

-- ---- the ways of `act`

abbrev pub lent_tables : List ℕ → List ℕ → List ℕ → List ℕ → List ℕ → List ℕ → List ℕ → List ℕ → Tables
lent_tables tk bl fl cl fk ck fr cr = enrol_lent no_tables tk bl fl cl fk ck fr cr

module _ (j : Job) (cuts : Cuts) (tk bl fl cl fk ck fr cr : List ℕ) (b : ℕ) (m : List ℕ) (p : Counts) (R : Ready (state_by j cuts (lent_tables tk bl fl cl fk ck fr cr)) b m p) where
  abbrev before : State
  before = state_by j cuts (lent_tables tk bl fl cl fk ck fr cr)

  abbrev cut_of : Cutting
  cut_of = (job_by j cuts).told.cutting

  call_facts : Passed before (enrol b m)
  call_facts = passed before (enrol b m) R.accepted

  -- its first tests, its block and its map
  begun : FirstTests before.job Enrol × (b < blocks cut_of) × (length m ≡ cells (block_extents cut_of b))
  unfolding refusal_of
  begun = lengths_passed before.job tk CallName.Enrol (lengths_of before.tables) b (enrol_step b) (length m) (or_none _ _ (sym (refusal_is before b m) ∙ R.accepted)).0

  -- its tables
  record Long : Type 0 where
    on_ticks : length tk ≡ ticks_per_block * blocks cut_of
    on_blocks : length bl ≡ numbers_per_block * blocks cut_of
    face_links : length fl ≡ j.entries.faces
    curve_links : length cl ≡ j.entries.curves
    face_keys : length fk ≡ j.entries.faces
    face_rows : length fr ≡ 2 * j.entries.faces
    curve_keys : length ck ≡ j.entries.curves
    curve_rows : length cr ≡ 4 * j.entries.curves

  long : Long
  unfolding block_trays link_trays found_trays
  long =
      let at : (i : ℕ) → _ = λ i. fits_at_lem (lent_to before.job.told before.tables (enrol b m)) i call_facts.lent in
      record { on_ticks = at 0; on_blocks = at 1; face_links = at 2; curve_links = at 3; face_keys = at 4; face_rows = at 5; curve_keys = at 6; curve_rows = at 7 }

  -- its tallies
  abbrev added : Counts
  added = record { faces = p.faces; curves = p.curves; points = 0 }

  more : (κ : Kind) → adds before (enrol b m) κ ≡ by_kind p.faces p.curves 0 κ
  unfolding adds
  more Face = sym R.plan.faces
  more Curve = sym R.plan.curves
  more Point = refl

  room : (κ : Kind) → before.job.sofar κ + by_kind p.faces p.curves 0 κ ≤ before.job.told.entries κ
  room κ = rw (← more κ) (has_room before.job.told.entries before.job.sofar (adds before (enrol b m)) call_facts.room κ)

  -- what `put_block` requires
  pub act_block : (b < most_blocks) × (numbers_per_block * b + numbers_per_block ≤ length bl)
  act_block = (omega (arith, begun.1, count_few cut_of begun.0.good (blocks cut_of) refl), omega (arith, begun.1, long.on_blocks))

  -- .. and `advance`
  pub act_advance : ((enrol_step b < length tk) × FewBlocks cuts.x.now cuts.y.now cuts.z.now)
      × ((j.sofar.faces + p.faces ≤ j.entries.faces) × (j.sofar.curves + p.curves ≤ j.entries.curves) × (j.sofar.points + 0 ≤ j.entries.points))
  act_advance = ((omega (arith, begun.1, long.on_ticks), few_of cut_of begun.0.good), (room Face, room Curve, room Point))

  module _ (r : Block) (T : AnyExtents cuts (λ k. Tells k b r)) where
    abbrev tells : Tells cut_of b r
    tells = T (triple j.nx j.ny j.nz)

    act_lies : Lies (triple j.nx j.ny j.nz) r
    act_lies = lies_told cut_of b r tells begun.0.good begun.1 begun.0.sized

    act_size : length m ≡ cells (size_of r)
    act_size = begun.2 ∙ ap cells (sym tells.size)

    act_faces_most : p.faces ≡ largest (size_of r) m 2
    act_faces_most = R.plan.faces ∙ ap (λ (v : Triple). largest v m 2) (sym tells.size)

    -- what `enrol_kind` requires of faces and of curves
    pub act_faces : KindReady (triple j.nx j.ny j.nz) r b m 2 0 j.sofar.faces p.faces (length fl) (length fk) (length fr)
    act_faces = record {
      lies = act_lies;
      size = act_size;
      block = act_block.0;
      below = omega arith;
      most = act_faces_most;
      on_links = omega (arith, room Face, long.face_links);
      on_keys = omega (arith, room Face, long.face_keys);
      on_rows = omega (arith, room Face, long.face_rows);
      shifts = inl refl;
    }

    pub act_curves : j.entries.faces < 4294967296 → KindReady (triple j.nx j.ny j.nz) r b m 1 j.sofar.faces j.sofar.curves p.curves (length cl) (length ck) (length cr)
    act_curves h = record {
      lies = act_lies;
      size = act_size;
      block = act_block.0;
      below = omega arith;
      most = R.plan.curves ∙ ap (λ (v : Triple). largest v m 1) (sym tells.size);
      on_links = omega (arith, room Curve, long.curve_links);
      on_keys = omega (arith, room Curve, long.curve_keys);
      on_rows = omega (arith, room Curve, long.curve_rows);
      shifts = inr (omega (arith, room Face, act_faces_most));
    }

    -- what all of them leave
    module _ (bl' : List ℕ) (eb : bl' ≡ overlay bl (numbers_per_block * b) (block_numbers p j.sofar.faces j.sofar.curves) numbers_per_block)
        (fl' fk' fr' : List ℕ) (F : KindDone (triple j.nx j.ny j.nz) r b m 2 0 j.sofar.faces p.faces fl fk fr fl' fk' fr')
        (cl' ck' cr' : List ℕ) (C : KindDone (triple j.nx j.ny j.nz) r b m 1 j.sofar.faces j.sofar.curves p.curves cl ck cr cl' ck' cr')
        (tk' : List ℕ) (q : Job) (A : Advanced j cuts tk tk' (enrol_step b) added q) where
      abbrev after : State
      after = state_by q cuts (lent_tables tk' bl' fl' cl' fk' ck' fr' cr')

      entry_is : (i : ℕ) → block_numbers p j.sofar.faces j.sofar.curves i ≡ block_entry before b m i
      unfolding block_numbers block_entry
      entry_is i = rw (R.plan.faces, R.plan.curves, R.plan.points)

      pub act_done : EnrolDone before b m after
      unfolding adds
      act_done = record {
        step = ticked_by j cuts (lent_tables tk bl fl cl fk ck fr cr) (lent_tables tk' bl' fl' cl' fk' ck' fr' cr') (enrol b m) (enrol_step b) added more q A;
        blocks = eb ∙ overlay_same bl (numbers_per_block * b) _ _ numbers_per_block (λ i _. entry_is i);
        faces = record {
          links = F.links_are ∙ ap (overlay fl j.sofar.faces (λ i. 0)) R.plan.faces;
          keys = enrolled_keys cut_of b r tells m Face j.sofar.faces p.faces fk fk' F.keys_are ∙ ap (overlay fk j.sofar.faces _) R.plan.faces;
          rows = enrolled_faces cut_of b r tells j.sofar.faces m j.sofar.faces p.faces fr fr' F.rows_are ∙ ap (λ (n : ℕ). overlay fr (2 * j.sofar.faces) (λ i. enrolled_row cut_of j.sofar.faces b m Face (suc (i / 2)) (i % 2)) (2 * n)) R.plan.faces;
        };
        curves = record {
          links = C.links_are ∙ ap (overlay cl j.sofar.curves (λ i. 0)) R.plan.curves;
          keys = enrolled_keys cut_of b r tells m Curve j.sofar.curves p.curves ck ck' C.keys_are ∙ ap (overlay ck j.sofar.curves _) R.plan.curves;
          rows = enrolled_curves cut_of b r tells j.sofar.faces m j.sofar.curves p.curves cr cr' C.rows_are ∙ ap (λ (n : ℕ). overlay cr (4 * j.sofar.curves) (λ i. enrolled_row cut_of j.sofar.faces b m Curve (suc (i / 4)) (i % 4)) (4 * n)) R.plan.curves;
        };
        points = found_kept refl;
        numbers = λ κ. numbers_kept_lem (numbered_kept j cuts tk tk' (enrol_step b) added q A κ) refl;
      }

-- ---- the ways of `enrol`

module _ (j : Job) (cuts : Cuts) (tk bl fl cl fk ck fr cr : List ℕ) (b : ℕ) (m : List ℕ) (z : Lengths)
    (e : z ≡ lent_lengths (length tk) (length bl) (length fl) (length cl) (length fk) (length ck) (length fr) (length cr)) (p : Result Counts Refusal) (J : Judged (job_by j cuts) tk z b m p) where
  abbrev start : State
  start = state_by j cuts (lent_tables tk bl fl cl fk ck fr cr)

  refusal_told : number_of p ≡ refusal start (enrol b m)
  refusal_told = J.told ∙ rw e (sym (refusal_is start b m))

  pub enrol_refused : (d : Refusal) → p ≡ Err d → (r : Result Job Refusal) → IsErr r × IsErrAnd r (λ x. x ≡ d)
      → CallStep start (enrol b m) (answer (number_of r) 0 []) (state_by (job_after j r) cuts (lent_tables tk bl fl cl fk ck fr cr))
  enrol_refused d q (Ok k) h = absurd (true≢false (sym h.0))
  enrol_refused d q (Err x) h =
      step_refused start (enrol b m) (number x) (ap number h.1 ∙ rw q at refusal_told) (λ y. absurd (omega (arith, number_positive x, y)))

  module _ (n : Counts) (q : p ≡ Ok n) where
    accepted_told : 0 ≡ refusal start (enrol b m)
    accepted_told = rw q at refusal_told

    pub enrol_ready : Ready start b m n
    enrol_ready = record { accepted = sym accepted_told; plan = rw q at J.plan }

    pub enrol_accepted : (t : State) → EnrolDone start b m t → CallStep start (enrol b m) (answer 0 0 []) t
    enrol_accepted t D = step_accepted start (enrol b m) 0 accepted_told refl (answer 0 0 []) t refl (refl, D)
