-- The tests that the calls share are the joiner's.
-- Assumes nothing.
use mathlib.Core.Path.{◌≡◌, refl, sym, ap, ◌∙◌}
use mathlib.Core.Bool.{Bool, true, false, not, cond, ◌&&◌}
use mathlib.Core.List.{List, [], ◌++◌}
use Prim.Native.Nat.{ℕ, ◌+◌, ◌*◌, ◌≤◌, ◌<◌}
use native.Mathlib.Omega.{arith}
use lib.Dec.{eqb, leb, ltb}
use lib.ListN.{get_or, length}
use borrow.Author.Tests.{eqb-true, eqb-false, ne_eqb, eq-eqb, le-ltb, leb-true, lt-ltb, ltb-true}
use Rattle.lists.proofs.Cases.{by_test, and_first, and_second}
use Rattle.refusals.specs.declared.Refusal.{Refusal}
use Rattle.refusals.proofs.RefusalLaws.{number_positive}
use Rattle.refusals.specs.Refusals.{number, table, first, given_by, stands_in}
use Rattle.cells.specs.Box.{triple}
use Rattle.cells.specs.declared.Triple.{Triple}
use Rattle.cells.specs.Extents.{Sized, off_size}
use Rattle.cells.specs.Grid.{cells}
use Rattle.extents.proofs.SizeLaws.{sized_of}
use Rattle.cutting.specs.Cutting.{Cutting, blocks, block_extents, good_cut, most_blocks, FewBlocks}
use Rattle.joiner.specs.Job.{Kind, Face, Curve, Point, Told, Tables, State, Tray, same_stage, count_of, from_of, ticked, lengths_fit, block_trays, link_trays, found_trays, number_trays, first_trays, listed_trays, kind_trays, numbers_per_block}
use Rattle.joiner.specs.Job as joiner
use Rattle.joiner.specs.Calls.{Call, enrol, join, cross, point, look, reading, Answer, answer, stage_of, placed, repeated, maps_fit, layers_differ, full, overfull}
use Rattle.joiner.specs.Declines.{adds, counted, cut_for, declines, lent_to, links_stand, map_stands, number_stands, refusal, standing, stands_for, stray, tallies_fit, ways_stand}
use Rattle.joiner.specs.Outcomes.{Done, CallStep, all_trays}
use Rattle.joiner.proofs.Passed.{tally_fits_lem}
use Rattle.blocks.specs.Blocks.{AnyExtents, size_of, Tells}
use Rattle.blocks.specs.declared.Block.{Block}
use Rattle.blocks.specs.declared.Cuts.{Cuts}
use Rattle.blocks.proofs.BlockLaws.{good_few, told_sized}
use Rattle.blocks.proofs.CodeLaws.{blocks_are}
use Rattle.job.specs.declared.Job.{Job}
use Rattle.job.specs.JobState.{AnyCuts, job_of, job_by}
use Rattle.job.proofs.JobLaws.{fits_append}
use Rattle.stages.specs.Ticks.{ticked_in}
use Rattle.judge.specs.declared.CallName.{CallName}
use Rattle.judge.specs.declared.Lengths.{Lengths}
use Rattle.judge.specs.declared.Entry.{Entry}
use Rattle.judge.specs.Judge.{first_refusal, entries_of, lengths_of, name_of, stage_for, lent_by, fits_lengths, block_fits, map_judged, lengths_judged, judged_of, opened_of, reached_of, late_of, placed_of, entry_of, stands_by, map_stands_in, links_stand_in, number_stands_in}

-- ---- one refusal or else another

module _ (x y : ℕ) where
  pub or_first : (x ≡ 0 → ⊥) → x ≡ first_refusal x y
  unfolding first_refusal
  or_first n = rw (ne_eqb x 0 n)

  pub or_then : (r : ℕ) → x ≡ 0 → r ≡ y → r ≡ first_refusal x y
  unfolding first_refusal
  or_then r e q = rw (eq-eqb x 0 e) q

  pub or_none : first_refusal x y ≡ 0 → (x ≡ 0) × (y ≡ 0)
  unfolding first_refusal
  or_none h = by_test (eqb x 0) (λ t. (eqb-true x 0 t, rw t at h)) (λ t. absurd (eqb-false x 0 t (rw t at h)))

-- .. where the first is an answer's
pub refused_first : (r : Refusal) (x y : ℕ) → number r ≡ x → number r ≡ first_refusal x y
refused_first r x y e = e ∙ or_first x y (λ z. absurd (omega (arith, number_positive r, e, z)))

pub passed_first : (x y n : ℕ) → 0 ≡ x → n ≡ y → n ≡ first_refusal x y
passed_first x y n e q = or_then x y n (sym e) q

pub or_else_assoc : (x y z : ℕ) → first_refusal x (first_refusal y z) ≡ first_refusal (first_refusal x y) z
unfolding first_refusal
or_else_assoc x y z = by_test (eqb x 0) (λ t. rw t) (λ t. rw (t, t))

-- 6, or else what follows
pub or_six : (a : Bool) (x : ℕ) → cond (not a) 6 x ≡ first_refusal (cond (not a) 6 0) x
unfolding first_refusal
or_six true x = refl
or_six false x = refl

pub six_none : (a : Bool) → ◌≡◌ {A = ℕ} (cond (not a) 6 0) 0 → a ≡ true
six_none true h = refl
six_none false h = absurd (omega arith)

-- ---- the ladder

pub first_three : (a b c : Bool) (x : ℕ) → cond a 1 (cond b 2 (cond c 3 x)) ≡ first_refusal (cond a 1 (cond b 2 (cond c 3 0))) x
unfolding first_refusal
first_three true b c x = refl
first_three false true c x = refl
first_three false false true x = refl
first_three false false false x = refl

four_five : (a b : Bool) (x : ℕ) → cond a 4 (cond b 5 x) ≡ first_refusal (cond a 4 (cond b 5 0)) x
unfolding first_refusal
four_five true b x = refl
four_five false true x = refl
four_five false false x = refl

module _ (s : State) (c : Call) (cut : cut_for s c ≡ good_cut s.job.told.cutting) where
  pub refusal_opened : refusal s c ≡ first_refusal (opened_of s.job (stage_of c)) (placed_of s c)
  unfolding refusal declines given_by first table number stands_in opened_of placed_of late_of
  refusal_opened =
      rw cut (first_three (off_size 1024 s.job.told.cutting.extents) (not (good_cut s.job.told.cutting)) (not (same_stage s.job.stage (stage_of c))) (placed_of s c))

  -- a step of block b
  pub refusal_reached : (b step : ℕ) → placed s.job.told.cutting s.job.numbered c ≡ ltb b (blocks s.job.told.cutting)
      → repeated s.job.told.cutting (ticked s.tables) c ≡ ticked_in s.tables.ticks step
      → refusal s c ≡ first_refusal (reached_of s.job (stage_of c) s.tables.ticks b step) (late_of s c)
  unfolding reached_of placed_of
  refusal_reached b step p q =
      refusal_opened ∙ ap (first_refusal (opened_of s.job (stage_of c))) (rw (p, q) (four_five (not (ltb b (blocks s.job.told.cutting))) (ticked_in s.tables.ticks step) (late_of s c))) ∙
      or_else_assoc (opened_of s.job (stage_of c)) (cond (not (ltb b (blocks s.job.told.cutting))) 4 (cond (ticked_in s.tables.ticks step) 5 0)) (late_of s c)

-- 10 cannot stand where nothing is added
module _ (s : State) (c : Call) (none : (κ : Kind) → adds s c κ ≡ 0) where
  room : tallies_fit s.job ≡ true → full s.job.told.entries s.job.sofar (adds s c) ≡ false
  unfolding full overfull
  room t =
      let h : (κ : Kind) → s.job.sofar κ ≤ s.job.told.entries κ = tally_fits_lem s.job t in
      let out : (κ : Kind) → ltb (s.job.told.entries κ) (s.job.sofar κ + adds s c κ) ≡ false =
      λ κ. le-ltb (s.job.told.entries κ) (s.job.sofar κ + adds s c κ) (omega (arith, h κ, none κ)) in
      rw (out Face, out Curve, out Point)

  pub late_none : (l : Bool)
      → ◌≡◌ {A = ℕ} (cond (stray s c) 8 (cond l 9 (cond (full s.job.told.entries s.job.sofar (adds s c)) 10 0)))
      (cond (not (tallies_fit s.job && stands_for s c)) 8 (cond l 9 0))
  unfolding stray
  late_none l = by_test (tallies_fit s.job && stands_for s c) (λ t. rw (t, room (and_first (tallies_fit s.job) (stands_for s c) t))) (λ t. rw t)

-- ---- what the first tests passed

pub record FirstTests (j : joiner.Job) (s : joiner.Stage) : Type 0 where
  pub sized : Sized 1024 j.told.cutting.extents
  pub good : good_cut j.told.cutting ≡ true
  pub stage : same_stage j.stage s ≡ true

pub opened_passed : (j : joiner.Job) (s : joiner.Stage) → opened_of j s ≡ 0 → FirstTests j s
unfolding opened_of
opened_passed j s h =
    let p = go (off_size 1024 j.told.cutting.extents) (good_cut j.told.cutting) (same_stage j.stage s) h in
    record { sized = sized_of 1024 j.told.cutting.extents p.0; good = p.1; stage = p.2 }
  where
    go : (a b c : Bool) → ◌≡◌ {A = ℕ} (cond a 1 (cond (not b) 2 (cond (not c) 3 0))) 0 → (a ≡ false) × (b ≡ true) × (c ≡ true)
    go true b c h = absurd (omega arith)
    go false false c h = absurd (omega arith)
    go false true false h = absurd (omega arith)
    go false true true h = (refl, refl, refl)

pub reached_passed : (j : joiner.Job) (s : joiner.Stage) (ticks : List ℕ) (b step : ℕ) → reached_of j s ticks b step ≡ 0 → FirstTests j s × (b < blocks j.told.cutting)
unfolding reached_of
reached_passed j s ticks b step h =
    let n = or_none (opened_of j s) (cond (not (ltb b (blocks j.told.cutting))) 4 (cond (ticked_in ticks step) 5 0)) h in
    (opened_passed j s n.0, ltb-true b (blocks j.told.cutting) (go (ltb b (blocks j.told.cutting)) (ticked_in ticks step) n.1))
  where
    go : (a b : Bool) → ◌≡◌ {A = ℕ} (cond (not a) 4 (cond b 5 0)) 0 → a ≡ true
    go false b h = absurd (omega arith)
    go true b h = refl

-- ---- a block of a good cut

module _ (k : Cutting) (good : good_cut k ≡ true) where
  pub few_of : FewBlocks k.cx k.cy k.cz
  few_of = good_few k good

  pub count_few : (count : ℕ) → count ≡ blocks k → count ≤ most_blocks
  count_few count e = rw (e, blocks_are k) few_of

  pub block_sized : (b : ℕ) → b < blocks k → (r : Block) → Tells k b r → Sized 64 (size_of r)
  block_sized b h r T = told_sized k b r T good h

-- ---- a block's map and its entry

-- The joiner's test of a map, by the block table.
pub stands_is : (s : State) (e : Triple) (b : ℕ) (m : List ℕ) → map_stands s e b m ≡ map_stands_in e (entry_of s.tables.blocks b) (s.job.told.entries Face) (s.job.told.entries Curve) m
unfolding map_stands counted standing count_of from_of map_stands_in stands_by entry_of
stands_is s e b m = rw (let q : numbers_per_block * b + 0 ≡ numbers_per_block * b = omega arith in q)

-- .. and of its links.
pub links_is : (s : State) (b : ℕ) → links_stand s b ≡ links_stand_in (entry_of s.tables.blocks b) (s.tables.links Face) (s.tables.links Curve)
unfolding links_stand ways_stand count_of from_of links_stand_in entry_of
links_is s b = rw (let q : numbers_per_block * b + 0 ≡ numbers_per_block * b = omega arith in q)

-- .. and of a final number.
pub number_is : (s : State) (κ : Kind) (x : ℕ) → number_stands s κ x ≡ number_stands_in (s.tables.numbers κ) (s.job.numbered κ) x
unfolding number_stands number_stands_in
number_is s κ x = refl

-- a number that a closed table has
module _ (n most : ℕ) where
  pub number_none : n ≡ 0 → false ≡ (ltb 0 n && leb n most)
  number_none z = rw z

  pub number_some : (n ≡ 0 → ⊥) → leb n most ≡ (ltb 0 n && leb n most)
  number_some z = rw (lt-ltb 0 n (omega arith))

  pub number_of : (ltb 0 n && leb n most) ≡ true → (0 < n) × (n ≤ most)
  number_of h = (ltb-true 0 n (and_first (ltb 0 n) (leb n most) h), leb-true n most (and_second (ltb 0 n) (leb n most) h))

  pub number_at_lem : (numbers : List ℕ) (x : ℕ) (t : Bool) → n ≡ get_or numbers x 0 → t ≡ (ltb 0 n && leb n most) → t ≡ number_stands_in numbers most x
  unfolding number_stands_in
  number_at_lem numbers x t e h = rw (← e) h

-- ---- the lengths of what is lent

-- two lists of lengths, tested one after the other
pub fits_join : (xs ys : List Tray) (a b r : Bool) → r ≡ (a && b) → a ≡ lengths_fit xs → b ≡ lengths_fit ys → r ≡ lengths_fit (xs ++ ys)
fits_join xs ys a b r e f g = rw (fits_append xs ys, ← f, ← g) e

-- a call that is told by name
pub lent_same : (c d : CallName) (count : ℕ) (n : Kind → ℕ) (z : Lengths) (r : Bool) → c ≡ d → r ≡ lengths_fit (lent_by d count n z) → r ≡ lengths_fit (lent_by c count n z)
lent_same c d count n z r e h = rw e h

-- The joiner's tables of a call, by their lengths.
pub lent_is : (o : Told) (t : Tables) (c : Call) → lent_to o t c ≡ lent_by (name_of c) (blocks o.cutting) o.entries (lengths_of t)
unfolding block_trays link_trays found_trays number_trays first_trays listed_trays kind_trays
lent_is o t (enrol b m) = refl
lent_is o t (join b c m n) = refl
lent_is o t (cross b m) = refl
lent_is o t (point b m) = refl
lent_is o t (look b m c) = refl
lent_is o t (reading κ n) = refl

-- .. and all of them, for the opening.
pub all_is : (o : Told) (t : Tables) → all_trays o t ≡ lent_by CallName.Open (blocks o.cutting) o.entries (lengths_of t)
unfolding all_trays block_trays link_trays found_trays number_trays first_trays listed_trays kind_trays
all_is o t = refl

-- .. and its stage.
pub stage_is : (c : Call) → stage_of c ≡ stage_for (name_of c)
stage_is (enrol b m) = refl
stage_is (join b c m n) = refl
stage_is (cross b m) = refl
stage_is (point b m) = refl
stage_is (look b m c) = refl
stage_is (reading κ n) = refl

-- ---- the judge is the joiner's

-- 8 decided in two steps, after 6
pub in_two : (f t p o : Bool) (x : ℕ) → cond (not f) 6 (cond (not (t && (p && o))) 8 x) ≡ first_refusal (cond (not f) 6 (cond (not (t && p)) 8 0)) (cond (not o) 8 x)
unfolding first_refusal
in_two false t p o x = refl
in_two true false p o x = refl
in_two true true false o x = refl
in_two true true true o x = refl

-- A step or reading c of one block b, which brings the map m.
module _ (s : State) (c : Call) (cut : cut_for s c ≡ good_cut s.job.told.cutting) (b : ℕ) (m : List ℕ)
    (map_is : maps_fit s.job.told.cutting c ≡ eqb (length m) (cells (block_extents s.job.told.cutting b))) where
  abbrev in_order : Bool
  in_order = block_fits s.job (name_of c) (lengths_of s.tables) b (length m)

  pub fits_is : (maps_fit s.job.told.cutting c && lengths_fit (lent_to s.job.told s.tables c)) ≡ in_order
  unfolding block_fits fits_lengths
  fits_is = rw (map_is, lent_is s.job.told s.tables c)

  abbrev rest_of : ℕ
  rest_of = cond (layers_differ s.job.told.cutting c) 9 (cond (full s.job.told.entries s.job.sofar (adds s c)) 10 0)

  -- the refusals from 6 on, where the call's own test is `own`
  pub late_judged : (own : Bool) → stands_for s c ≡ (map_stands s (block_extents s.job.told.cutting b) b m && own)
      → late_of s c ≡ first_refusal (map_judged s.job (block_extents s.job.told.cutting b) (entry_of s.tables.blocks b) in_order m) (cond (not own) 8 rest_of)
  unfolding late_of stray map_judged
  late_judged own h =
      rw (fits_is, h, stands_is s (block_extents s.job.told.cutting b) b m)
      (in_two in_order (tallies_fit s.job) (map_stands_in (block_extents s.job.told.cutting b) (entry_of s.tables.blocks b) (s.job.told.entries Face) (s.job.told.entries Curve) m) own rest_of)

  -- a step
  module _ (step : ℕ) (at : placed s.job.told.cutting s.job.numbered c ≡ ltb b (blocks s.job.told.cutting))
      (again : repeated s.job.told.cutting (ticked s.tables) c ≡ ticked_in s.tables.ticks step) where
    reached_is : refusal s c ≡ first_refusal (reached_of s.job (stage_for (name_of c)) s.tables.ticks b step) (late_of s c)
    reached_is = rw (← stage_is c) (refusal_reached s c cut b step at again)

    pub refusal_lengths : refusal s c ≡ first_refusal (lengths_judged s.job s.tables.ticks (name_of c) (lengths_of s.tables) b step (length m)) (cond (stray s c) 8 rest_of)
    unfolding lengths_judged late_of
    refusal_lengths =
        reached_is ∙ rw fits_is (ap (first_refusal (reached_of s.job (stage_for (name_of c)) s.tables.ticks b step)) (or_six in_order (cond (stray s c) 8 rest_of))) ∙
        or_else_assoc (reached_of s.job (stage_for (name_of c)) s.tables.ticks b step) (cond (not in_order) 6 0) (cond (stray s c) 8 rest_of)

    pub refusal_judged : (own : Bool) → stands_for s c ≡ (map_stands s (block_extents s.job.told.cutting b) b m && own)
        → refusal s c ≡ first_refusal (judged_of s.job s.tables.ticks s.tables.blocks (name_of c) (lengths_of s.tables) b step m) (cond (not own) 8 rest_of)
    unfolding judged_of
    refusal_judged own h =
        reached_is ∙ ap (first_refusal (reached_of s.job (stage_for (name_of c)) s.tables.ticks b step)) (late_judged own h) ∙
        or_else_assoc (reached_of s.job (stage_for (name_of c)) s.tables.ticks b step)
        (map_judged s.job (block_extents s.job.told.cutting b) (entry_of s.tables.blocks b) in_order m) (cond (not own) 8 rest_of)

-- ---- what the judge has passed

pub six_passed : (a : Bool) (x : ℕ) → ◌≡◌ {A = ℕ} (cond (not a) 6 x) 0 → a ≡ true
six_passed true x h = refl
six_passed false x h = absurd (omega arith)

six_eight : (a b c : Bool) → ◌≡◌ {A = ℕ} (cond (not a) 6 (cond (not (b && c)) 8 0)) 0 → (a ≡ true) × (b ≡ true) × (c ≡ true)
six_eight false b c h = absurd (omega arith)
six_eight true false c h = absurd (omega arith)
six_eight true true false h = absurd (omega arith)
six_eight true true true h = (refl, refl, refl)

-- What the judge has passed of a call with block b's map.
pub record MapTests (j : joiner.Job) (c : CallName) (table : List ℕ) (b : ℕ) (m : List ℕ) : Type 0 where
  pub first : FirstTests j (stage_for c)
  pub there : b < blocks j.told.cutting
  pub whole : length m ≡ cells (block_extents j.told.cutting b)
  pub tallies : tallies_fit j ≡ true
  pub stands : map_stands_in (block_extents j.told.cutting b) (entry_of table b) (j.told.entries Face) (j.told.entries Curve) m ≡ true

size_passed : (j : joiner.Job) (c : CallName) (z : Lengths) (b size : ℕ) → block_fits j c z b size ≡ true → size ≡ cells (block_extents j.told.cutting b)
unfolding block_fits fits_lengths
size_passed j c z b size h = eqb-true _ _ (and_first (eqb size (cells (block_extents j.told.cutting b))) _ h)

module _ (j : joiner.Job) (ticks : List ℕ) (c : CallName) (z : Lengths) (b step : ℕ) where
  pub lengths_passed : (size : ℕ) → lengths_judged j ticks c z b step size ≡ 0
      → FirstTests j (stage_for c) × (b < blocks j.told.cutting) × (size ≡ cells (block_extents j.told.cutting b))
  unfolding lengths_judged
  lengths_passed size h =
      let n = or_none (reached_of j (stage_for c) ticks b step) (cond (not (block_fits j c z b size)) 6 0) h in
      let p = reached_passed j (stage_for c) ticks b step n.0 in
      (p.0, p.1, size_passed j c z b size (six_passed (block_fits j c z b size) 0 n.1))

  pub judged_passed : (table m : List ℕ) → judged_of j ticks table c z b step m ≡ 0 → MapTests j c table b m
  unfolding judged_of map_judged
  judged_passed table m h =
      let k : Cutting = j.told.cutting in
      let n = or_none (reached_of j (stage_for c) ticks b step) (map_judged j (block_extents k b) (entry_of table b) (block_fits j c z b (length m)) m) h in
      let p = reached_passed j (stage_for c) ticks b step n.0 in
      let q = six_eight (block_fits j c z b (length m)) (tallies_fit j) (map_stands_in (block_extents k b) (entry_of table b) (j.told.entries Face) (j.told.entries Curve) m) n.1 in
      record { first = p.0; there = p.1; whole = size_passed j c z b (length m) q.0; tallies = q.1; stands = q.2 }

-- What comes after the judge may suppose that the tallies fit.
pub judged_same : (s : State) (c : Call) (b step : ℕ) (m : List ℕ) (x y : ℕ) → (tallies_fit s.job ≡ true → x ≡ y)
    → first_refusal (judged_of s.job s.tables.ticks s.tables.blocks (name_of c) (lengths_of s.tables) b step m) x
    ≡ first_refusal (judged_of s.job s.tables.ticks s.tables.blocks (name_of c) (lengths_of s.tables) b step m) y
unfolding first_refusal
judged_same s c b step m x y h =
    let n : ℕ = judged_of s.job s.tables.ticks s.tables.blocks (name_of c) (lengths_of s.tables) b step m in
    by_test (eqb n 0) (λ t. rw t (h (judged_passed s.job s.tables.ticks (name_of c) (lengths_of s.tables) b step s.tables.blocks m (eqb-true n 0 t)).tallies)) (λ t. rw t)

-- .. so 10 cannot stand where nothing is added.
pub rest_none : (s : State) (c : Call) → ((κ : Kind) → adds s c κ ≡ 0) → (b step : ℕ) (m : List ℕ) (own l : Bool)
    → first_refusal (judged_of s.job s.tables.ticks s.tables.blocks (name_of c) (lengths_of s.tables) b step m)
    (cond (not own) 8 (cond l 9 (cond (full s.job.told.entries s.job.sofar (adds s c)) 10 0)))
    ≡ first_refusal (judged_of s.job s.tables.ticks s.tables.blocks (name_of c) (lengths_of s.tables) b step m) (cond (not own) 8 (cond l 9 0))
rest_none s c none b step m own l = judged_same s c b step m _ _ (λ t. rw (room s c none t))

-- ---- the ways of the judge

module _ (j : Job) (e : Triple) (d : Entry) (m : List ℕ) where
  abbrev MapJudges : Bool → ℕ → Type 0
  MapJudges whole r = AnyCuts (λ cx cy cz. r ≡ map_judged (job_of j cx cy cz) e d whole m)

  pub map-6 : (u : Bool) → u ≡ false → MapJudges u 6
  unfolding map_judged
  map-6 u q cx cy cz = rw (q)

  module _ (u : Bool) (q : u ≡ true) (t : Bool) (h : AnyCuts (λ cx cy cz. t ≡ tallies_fit (job_of j cx cy cz))) where
    pub map-tallies : t ≡ false → MapJudges u 8
    unfolding map_judged
    map-tallies p cx cy cz = rw (q, sym (h cx cy cz) ∙ p)

    module _ (p : t ≡ true) (v : Bool) (i : v ≡ map_stands_in e d j.entries.faces j.entries.curves m) where
      pub map-8 : v ≡ false → MapJudges u 8
      unfolding map_judged
      map-8 w cx cy cz = rw (q, sym (h cx cy cz) ∙ p, sym i ∙ w)

      pub map-0 : v ≡ true → MapJudges u 0
      unfolding map_judged
      map-0 w cx cy cz = rw (q, sym (h cx cy cz) ∙ p, sym i ∙ w)

-- a map of the stated length
pub fits_size : (c : CallName) (i : ℕ) (e : Triple) (n : Kind → ℕ) (z : Lengths) (size : ℕ) (u : Bool) → u ≡ fits_lengths c i e n z size → u ≡ true → size ≡ cells e
unfolding fits_lengths
fits_size c i e n z size u f v = eqb-true _ _ (and_first (eqb size (cells e)) _ (sym f ∙ v))

-- n is what the first tests tell
module _ (j : Job) (cuts : Cuts) (ticks : List ℕ) (c : CallName) (z : Lengths) (b step n : ℕ) (s : joiner.Stage) (f : s ≡ stage_for c) (e : n ≡ reached_of (job_by j cuts) s ticks b step) where
  abbrev cut_as : Cutting
  cut_as = (job_by j cuts).told.cutting

  abbrev extents_of : Triple
  extents_of = triple j.nx j.ny j.nz

  first_is : n ≡ reached_of (job_by j cuts) (stage_for c) ticks b step
  first_is = rw (← f) e

  pub lengths_first : (size : ℕ) → (n ≡ 0 → ⊥) → n ≡ lengths_judged (job_by j cuts) ticks c z b step size
  unfolding lengths_judged
  lengths_first size q = rw (← first_is) (or_first n _ q)

  pub judged_first : (blocks₀ m : List ℕ) → (n ≡ 0 → ⊥) → n ≡ judged_of (job_by j cuts) ticks blocks₀ c z b step m
  unfolding judged_of
  judged_first blocks₀ m q = rw (← first_is) (or_first n _ q)

  module _ (q : n ≡ 0) where
    begun : FirstTests (job_by j cuts) (stage_for c) × (b < blocks cut_as)
    begun = reached_passed (job_by j cuts) (stage_for c) ticks b step (sym first_is ∙ q)

    pub begun_few : FewBlocks cuts.x.now cuts.y.now cuts.z.now
    begun_few = few_of cut_as begun.0.good

    module _ (r : Block) (T : AnyExtents cuts (λ k. Tells k b r)) (i : ℕ) (many : AnyExtents cuts (λ k. i ≡ blocks k)) where
      pub begun_sized : (i ≤ most_blocks) × Sized 64 (size_of r)
      begun_sized = (count_few cut_as begun.0.good i (many extents_of), block_sized cut_as begun.0.good b begun.1 r (T extents_of))

      module _ (size : ℕ) (u : Bool) (h : u ≡ fits_lengths c i (size_of r) (entries_of j) z size) where
        fits_told : u ≡ block_fits (job_by j cuts) c z b size
        unfolding block_fits
        fits_told = rw (← many extents_of, ← (T extents_of).size) h

        pub lengths_last : cond (not u) 6 0 ≡ lengths_judged (job_by j cuts) ticks c z b step size
        unfolding lengths_judged
        lengths_last = rw (← first_is, ← fits_told) (or_then n _ (cond (not u) 6 0) q refl)

      pub judged_then : (blocks₀ m : List ℕ) (u : Bool) → u ≡ fits_lengths c i (size_of r) (entries_of j) z (length m) → (d : Entry) → d ≡ entry_of blocks₀ b → (x : ℕ)
          → AnyCuts (λ cx cy cz. x ≡ map_judged (job_of j cx cy cz) (size_of r) d u m) → x ≡ judged_of (job_by j cuts) ticks blocks₀ c z b step m
      unfolding judged_of
      judged_then blocks₀ m u h d g x l =
          rw (← first_is, ← fits_told (length m) u h, ← g, ← (T extents_of).size) (or_then n _ x q (l cuts.x.now cuts.y.now cuts.z.now))

-- ---- one call

module _ (s : State) (c : Call) (number' : ℕ) (e : number' ≡ refusal s c) where
  pub step_refused : (number' ≡ 0 → ⊥) → CallStep s c (answer number' 0 []) s
  step_refused n = record { told = e; declined = λ _. (ap (λ (x : ℕ). answer x 0 []) e, refl); accepted = λ a. absurd (n (e ∙ a)) }

  pub step_accepted : number' ≡ 0 → (a : Answer) (t : State) → a.refusal ≡ 0 → Done s c a t → CallStep s c a t
  step_accepted z a t u d = record { told = u ∙ sym z ∙ e; declined = λ n. absurd (n (sym e ∙ z)); accepted = λ _. d }
