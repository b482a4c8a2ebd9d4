-- The tests by lengths are the joiner's, and the part is the row that the joiner asks for.
-- Assumes nothing.
use mathlib.Core.Path.{◌≡◌, refl, sym, ap, ◌∙◌}
use mathlib.Core.Bool.{Bool, true, false, not, cond, ◌&&◌, and-true, true≢false}
use mathlib.Core.List.{List, []}
use Prim.Native.Nat.{ℕ, suc, ◌+◌, ◌-◌, ◌*◌, ◌≤◌, ◌<◌}
use native.Mathlib.Nat.{mul-le-mul_left, mul-suc}
use native.Mathlib.Omega.{arith}
use lib.Dec.{leb, ltb}
use lib.ListN.{length}
use borrow.Author.Tests.{leb-true, ltb-true}
use Rattle.std.specs.Prelude.{Result, Ok, Err, IsErr, IsErrAnd}
use Rattle.std.specs.Borrow.{Bor}
use Rattle.lists.proofs.Cases.{and_first, and_second}
use Rattle.cells.specs.Box.{triple}
use Rattle.cells.specs.declared.Triple.{Triple}
use Rattle.cells.specs.Extents.{off_size}
use Rattle.refusals.specs.declared.Refusal.{Refusal}
use Rattle.refusals.specs.Refusals.{number, number_of, table, first, given_by, stands_in}
use Rattle.refusals.proofs.RefusalLaws.{number_positive}
use Rattle.joiner.specs.Job.{Face, Curve, Point, State, width, listed_trays, lengths_fit}
use Rattle.joiner.specs.Job as joiner
use Rattle.joiner.specs.Calls.{Call, reading, answer}
use Rattle.joiner.specs.Declines.{adds, declines, lent_to, refusal, stands_for, tallies_fit, tally_fits}
use Rattle.joiner.specs.Outcomes.{CallStep, row_taken}
use Rattle.joiner.proofs.Passed.{Passed, passed, fits_at_lem, numbered_fits}
use Rattle.job.specs.declared.Job.{Job}
use Rattle.job.specs.JobState.{job_of, numbered_tally, state_of, AnyCuts}
use Rattle.job.specs.declared.Stage.{Stage}
use Rattle.job.proofs.JobLaws.{same_derived}
use Rattle.judge.specs.declared.CallName.{CallName}
use Rattle.judge.specs.declared.Lengths.{Lengths}
use Rattle.judge.specs.Judge.{entries_of, lengths_of, lent_by}
use Rattle.judge.proofs.JudgeLaws.{lent_is, late_none, step_refused, step_accepted}
use Rattle.reading_row.specs.declared.Kind.{Kind}
use Rattle.reading_row.specs.Inner.{kind_of, lent, refusal_of, HasRow, row_in, part_of}

-- ---- a row within its table

pub row_end : (w n size : ℕ) → (0 < n) × (w * n ≤ size) → w * (n - 1) + w ≤ size
row_end w n size h =
    let e : n ≡ suc (n - 1) = omega (arith, h.0) in
    let q : w * suc (n - 1) ≡ w * (n - 1) + w = mul-suc w (n - 1) in
    omega (arith, ap (λ (x : ℕ). w * x) e ∙ q, h.1)

-- ---- the last test

-- what follows the tests before it, where they are passed
pub refusal_last : (j : Job) (kind : Kind) (n : ℕ) (z : Lengths) (e : Triple) → e ≡ triple j.nx j.ny j.nz
    → (t1 : Bool) → t1 ≡ off_size 1024 e → t1 ≡ false
    → (t3 : Bool) → t3 ≡ not (denote.Enum.Bare.sameb Rattle.job.specs.contracts.Stage.the_type j.stage Stage.Closed) → t3 ≡ false
    → (most : ℕ) → most ≡ numbered_tally j (kind_of kind) → (t4 : Bool) → t4 ≡ (ltb 0 n && leb n most) → t4 ≡ true
    → (t6 : Bool) → t6 ≡ lengths_fit (lent_by CallName.Row 0 (entries_of j) z) → t6 ≡ true
    → (t8 : Bool) → AnyCuts (λ cx cy cz. t8 ≡ tallies_fit (job_of j cx cy cz)) → (r : ℕ) → r ≡ cond (not t8) 8 0 → r ≡ refusal_of j kind n z
unfolding refusal_of
refusal_last j kind n z e a t1 h1 p1 t3 h3 p3 most b t4 h4 p4 t6 h6 p6 t8 h8 r q =
    rw (sym (h1 ∙ ap (off_size 1024) a) ∙ p1, sym (h3 ∙ ap not (same_derived j.stage Stage.Closed)) ∙ p3, sym (h4 ∙ ap (λ m. ltb 0 n && leb n m) b) ∙ p4, sym h6 ∙ p6, sym (h8 [] [] [])) q

-- ---- the tests by lengths are the joiner's

module _ (j : Job) (kind : Kind) (n : ℕ) (faces curves points : List ℕ) (cx cy cz : List ℕ) where
  abbrev before : State
  before = state_of j cx cy cz (lent faces curves points)

  abbrev call : Call
  call = reading (kind_of kind) n

  none_added : (κ : joiner.Kind) → adds before call κ ≡ 0
  unfolding adds
  none_added κ = refl

  tallies_is : tallies_fit (job_of j cx cy cz) ≡ tallies_fit (job_of j [] [] [])
  unfolding tallies_fit tally_fits
  tallies_is = refl

  stands_is : (tallies_fit before.job && stands_for before call) ≡ tallies_fit (job_of j [] [] [])
  stands_is = and-true (tallies_fit before.job) ∙ tallies_is

  -- The refusal is the joiner's.
  pub refusal_is : refusal before call ≡ refusal_of j kind n (lengths_of (lent faces curves points))
  unfolding refusal declines given_by first table number stands_in refusal_of
  refusal_is = rw (lent_is before.job.told before.tables call, ← stands_is, ← late_none before call none_added false)

  -- ---- an accepted reading

  module _ (acc : refusal_of j kind n (lengths_of (lent faces curves points)) ≡ 0) where
    call_facts : Passed before call
    call_facts = passed before call (refusal_is ∙ acc)

    some : 0 < n
    some = ltb-true 0 n (and_first (ltb 0 n) (leb n (numbered_tally j (kind_of kind))) call_facts.placed_in)

    most : n ≤ before.job.told.entries (kind_of kind)
    most = omega (arith, leb-true n (numbered_tally j (kind_of kind)) (and_second (ltb 0 n) (leb n (numbered_tally j (kind_of kind))) call_facts.placed_in), numbered_fits before.job call_facts.tallies (kind_of kind))

    long : (κ : joiner.Kind) → length (before.tables.listed κ) ≡ width κ * before.job.told.entries κ
    unfolding listed_trays
    long Face = fits_at_lem (lent_to before.job.told before.tables call) 0 call_facts.lent
    long Curve = fits_at_lem (lent_to before.job.told before.tables call) 1 call_facts.lent
    long Point = fits_at_lem (lent_to before.job.told before.tables call) 2 call_facts.lent

    has_row : HasRow kind n faces curves points
    has_row = (some, rw (long (kind_of kind)) (mul-le-mul_left (width (kind_of kind)) most))

-- ---- the public entry

module _ (j : Job) (kind : Kind) (n : ℕ) (faces curves points : List ℕ) where
  abbrev Reads : Result (Bor (List ℕ)) Refusal → Type 0
  Reads x =
      AnyCuts (λ cx cy cz. CallStep (state_of j cx cy cz (lent faces curves points)) (reading (kind_of kind) n) (answer (number_of x) 0 (part_of x))
      (state_of j cx cy cz (lent faces curves points)))

  abbrev refuses : ℕ → Type 0
  refuses r = r ≡ refusal_of j kind n (lengths_of (lent faces curves points))

  pub reading_refused : (r : Refusal) → refuses (number r) → (x : Result (Bor (List ℕ)) Refusal) → IsErr x × IsErrAnd x (λ e. e ≡ r) → Reads x
  reading_refused r e (Ok y) h cx cy cz = absurd (true≢false (sym h.0))
  reading_refused r e (Err q) h cx cy cz =
      step_refused (before j kind n faces curves points cx cy cz) (reading (kind_of kind) n) (number q) (ap number h.1 ∙ e ∙ sym (refusal_is j kind n faces curves points cx cy cz))
      (λ z. absurd (omega (arith, number_positive q, z)))

  module _ (e : refuses 0) where
    pub ready : HasRow kind n faces curves points
    ready = has_row j kind n faces curves points [] [] [] (sym e)

    pub reading_accepted : (y : Bor (List ℕ)) → y.now ≡ row_in kind n faces curves points → Reads (Ok y)
    unfolding row_taken
    reading_accepted y q cx cy cz =
        step_accepted (before j kind n faces curves points cx cy cz) (reading (kind_of kind) n) 0 (e ∙ sym (refusal_is j kind n faces curves points cx cy cz)) refl
        (answer 0 0 y.now) (before j kind n faces curves points cx cy cz) refl (rw q (refl, refl))
